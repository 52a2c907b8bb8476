-- A template is filled from its first byte to its last.
use Rattle.std.proofs.Common.{◌≡◌, ℕ, ◌+◌, ◌-◌, ◌*◌, ◌^◌, ◌<◌, ◌≤◌, List, [], ◌∷◌, ◌++◌, map, length, get_or, drop, decimal, sym, ap, ◌∙◌, append_assoc, arith, eq-eqb, ne_eqb}
use Rattle.std.proofs.lemmas.List.{drop_more}
use Rattle.std.proofs.lemmas.Fmt.{length-decimal-le}
use Rattle.scanner.specs.Templates.{fill}
use Rattle.scanner.proofs.Filling.{fill_byte, fill_next}
use Rattle.trace.specs.Puts.{Put}
use Rattle.trace.proofs.Putting.{both}

-- i bytes of the template are used and the numbers `left` are not, and the buffer is at its next place
pub record Sofar (t ns before : List ℕ) (i : ℕ) (left out : List ℕ) (at : ℕ) : Type 0 where
  pub text : List ℕ
  pub put : Put before 0 text out at
  pub rest : text ++ fill (drop i t) (map decimal left) ≡ fill t (map decimal ns)
  pub room : at + (length t - i) + 9 * length left ≤ length t + 9 * length ns

module _ (t ns before : List ℕ) (i : ℕ) (left out : List ℕ) (at : ℕ) (s : Sofar t ns before i left out at) where
  module _ (here : i < length t) (after : List ℕ) (next : ℕ) where
    pub byte_filled : (get_or t i 0 ≡ 35 → ⊥) → Put out at (get_or t i 0 ∷ []) after next → Sofar t ns before (i + 1) left after next
    byte_filled no_gap p = record {
      text = s.text ++ get_or t i 0 ∷ [];
      put = both _ _ _ _ _ _ _ _ s.put p;
      rest =
          append_assoc s.text (get_or t i 0 ∷ []) (fill (drop (i + 1) t) (map decimal left))
          ∙ ap (λ l. s.text ++ l) (sym (ap (λ l. fill l (map decimal left)) (drop_more t i 0 here) ∙ fill_byte (get_or t i 0) (drop (i + 1) t) (ne_eqb _ _ no_gap) (map decimal left)))
          ∙ s.rest;
      room = omega (arith, s.room, p.place);
    }

    pub gap_filled : (n : ℕ) (behind : List ℕ) → get_or t i 0 ≡ 35 → left ≡ n ∷ behind → n < 2 ^ 32 → Put out at (decimal n) after next → Sofar t ns before (i + 1) behind after next
    gap_filled n behind is-gap left-is small p = record {
      text = s.text ++ decimal n;
      put = both _ _ _ _ _ _ _ _ s.put p;
      rest =
          append_assoc s.text (decimal n) (fill (drop (i + 1) t) (map decimal behind))
          ∙ ap (λ l. s.text ++ l) (sym here_filled)
          ∙ s.rest;
      room = omega (arith, s.room, p.place, ap length left-is, length-decimal-le 10 n (omega arith) (omega arith) (omega arith));
    }
      where
        here_filled : fill (drop i t) (map decimal left) ≡ decimal n ++ fill (drop (i + 1) t) (map decimal behind)
        here_filled =
            (λ j. fill (drop_more t i 0 here j) (map decimal (left-is j)))
            ∙ fill_next (get_or t i 0) (drop (i + 1) t) (eq-eqb _ _ is-gap) (decimal n) (map decimal behind)
