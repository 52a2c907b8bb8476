-- How far a line is read along a template.
use Rattle.std.proofs.Common.{◌≡◌, ℕ, ◌+◌, ◌<◌, ◌≤◌, Bool, true, false, List, [], ◌∷◌, ◌++◌, map, length, get_or, take, drop, set, Some, None, sym, refl, ap, ◌∙◌, subst, append_assoc, append-nil, arith, take-append-drop}
use Rattle.std.specs.Bool.{then_some}
use Rattle.std.specs.List.{AllByRecursion}
use Rattle.std.proofs.ByRecursion.{All-push}
use Rattle.std.proofs.lemmas.List.{length_push, map_push, take_more_set, take_all, drop_more, drop_all}
use Rattle.std.proofs.lemmas.Bool.{eq-eqb, ne_eqb}
use Rattle.scanner.specs.Numerals.{Numeral, told, Stop, Found, Begins}
use Rattle.scanner.specs.Templates.{gap, gaps, fill, Filled, clear, Scans}
use Rattle.scanner.proofs.Digits.{unique}
use Rattle.scanner.proofs.Filling.{fill_byte, fill_next, gaps_byte, gaps_next, clear_byte, clear_next, stop_fill}

-- `later` is still to come of the template t, and `rest` of the line; k numbers are in ns
pub record Sofar (t line later rest ns : List ℕ) (k : ℕ) : Type 0 where
  pub numerals : List (List ℕ)
  pub each : AllByRecursion Numeral numerals
  pub count : length numerals ≡ k
  pub left : k + gaps later ≡ gaps t
  pub gives : take k ns ≡ map told numerals
  pub clearly : clear t ≡ true → clear later ≡ true
  pub built : (es : List (List ℕ)) → rest ≡ fill later es → line ≡ fill t (numerals ++ es)
  pub only : clear t ≡ true → (es : List (List ℕ)) → Filled t line es → (fs : List (List ℕ)) × Filled later rest fs

begin : (t line ns : List ℕ) → Sofar t line t line ns 0
begin t line ns = record {
  numerals = [];
  each = tt;
  count = refl;
  left = omega arith;
  gives = refl;
  clearly = λ c. c;
  built = λ es e. e;
  only = λ c es f. (es, f);
}

module _ {t line later rest ns : List ℕ} {k : ℕ} (s : Sofar t line later rest ns k) where
  -- a byte that stands as it is
  module _ (c : ℕ) (after : List ℕ) (later-is : later ≡ c ∷ after) (g : gap c ≡ false) where
    -- what still fits begins with it
    fits : (fs : List (List ℕ)) → Filled later rest fs → rest ≡ c ∷ fill after fs
    fits fs f = f.is ∙ ap (λ l. fill l fs) later-is ∙ fill_byte c after g fs

    byte_read : (behind : List ℕ) → rest ≡ c ∷ behind → Sofar t line after behind ns k
    byte_read behind rest-is = record {
      numerals = s.numerals;
      each = s.each;
      count = s.count;
      left = omega (arith, s.left, ap gaps later-is, gaps_byte c after g);
      gives = s.gives;
      clearly = λ h. clear_byte c after g (sym (ap clear later-is) ∙ s.clearly h);
      built = λ es e. s.built es (rest-is ∙ ap (λ l. c ∷ l) e ∙ sym (fill_byte c after g es) ∙ sym (ap (λ l. fill l es) later-is));
      only = λ h es f. let r = s.only h es f in (r.0, shorter r.0 r.1);
    }
      where
        shorter : (fs : List (List ℕ)) → Filled later rest fs → Filled after behind fs
        shorter fs f = record {
          numerals = f.numerals;
          count = f.count ∙ ap gaps later-is ∙ gaps_byte c after g;
          is = let e = sym rest-is ∙ fits fs f in cc;
        }

  -- a gap
  module _ (c : ℕ) (after : List ℕ) (later-is : later ≡ c ∷ after) (g : gap c ≡ true) where
    -- what still fits begins with a numeral
    fits_gap : clear t ≡ true → (fs : List (List ℕ)) → Filled later rest fs → (d : List ℕ) × (gs : List (List ℕ)) × Numeral d × Filled after (fill after gs) gs × Stop (fill after gs) × (rest ≡ d ++ fill after gs)
    fits_gap h [] f = absurd (omega (arith, f.count, ap gaps later-is, gaps_next c after g))
    fits_gap h (d ∷ gs) f = (
      d,
      gs,
      f.numerals.0,
      record { numerals = f.numerals.1; count = omega (arith, f.count, ap gaps later-is, gaps_next c after g); is = refl },
      stop_fill after gs (clear_next c after g (sym (ap clear later-is) ∙ s.clearly h)).0,
      f.is ∙ ap (λ l. fill l (d ∷ gs)) later-is ∙ fill_next c after g d gs,
    )

    numeral_read : (n e : ℕ) → k < length ns → Found rest n e → Sofar t line after (drop e rest) (set ns k n) (k + 1)
    numeral_read n e room found = record {
      numerals = s.numerals ++ d ∷ [];
      each = All-push Numeral s.numerals d s.each found.numeral;
      count = omega (arith, length_push s.numerals d, s.count);
      left = omega (arith, s.left, ap gaps later-is, gaps_next c after g);
      gives = take_more_set ns k n room ∙ ap (λ l. l ++ n ∷ []) s.gives ∙ ap (λ m. map told s.numerals ++ m ∷ []) found.number ∙ sym (map_push told s.numerals d);
      clearly = λ h. (clear_next c after g (sym (ap clear later-is) ∙ s.clearly h)).1;
      built = λ es q. s.built (d ∷ es) (split ∙ ap (λ l. d ++ l) q ∙ sym (fill_next c after g d es) ∙ sym (ap (λ l. fill l (d ∷ es)) later-is)) ∙ ap (fill t) (sym (append_assoc s.numerals (d ∷ []) es));
      only = λ h es f. shorter (let r = s.only h es f in fits_gap h r.0 r.1);
    }
      where
        d : List ℕ
        d = take e rest

        split : rest ≡ d ++ drop e rest
        split = sym (take-append-drop e rest)

        shorter : ((x : List ℕ) × (gs : List (List ℕ)) × Numeral x × Filled after (fill after gs) gs × Stop (fill after gs) × (rest ≡ x ++ fill after gs)) → (fs : List (List ℕ)) × Filled after (drop e rest) fs
        shorter p =
            let u = unique d p.0 (drop e rest) (fill after p.1) found.numeral.digits p.2.digits found.stop p.4 (sym split ∙ p.5) in
            (p.1, record { numerals = p.3.numerals; count = p.3.count; is = u.1 })

    numeral_missing : Begins rest None → clear t ≡ true → (es : List (List ℕ)) → Filled t line es → ⊥
    numeral_missing none h es f =
        let r = s.only h es f in
        let p = fits_gap h r.0 r.1 in
        none p.0 (fill after p.1) p.2 p.4 p.5

  -- the template is at its end
  module _ (done : later ≡ []) where
    line_read : rest ≡ [] → length ns ≡ k → Scans k t line (Some ns)
    line_read none full = (
      s.numerals,
      record {
        numerals = s.each;
        count = omega (arith, s.count, s.left, ap gaps done);
        is = s.built [] (none ∙ sym (ap (λ l. fill l []) done)) ∙ ap (fill t) (append-nil s.numerals);
      },
      sym (take_all k ns (omega arith)) ∙ s.gives,
    )

    line_or_none : (n : ℕ) (b : Bool) → length ns ≡ n → (b ≡ true → (rest ≡ []) × (k ≡ n)) → (b ≡ false → rest ≡ [] → k ≡ n → ⊥) → Scans n t line (then_some b ns)
    line_or_none n true full both _ = subst (λ m. Scans m t line (Some ns)) (both refl).1 (line_read (both refl).0 (full ∙ sym (both refl).1))
    line_or_none n false full _ never = λ count c es f.
        let r = s.only c es f in
        never refl (r.1.is ∙ ap (λ l. fill l r.0) done) (omega (arith, s.left, ap gaps done, count))

-- i bytes of the template are read, and `rest` is to come of the line
module _ (t line : List ℕ) (i : ℕ) (rest ns : List ℕ) (k : ℕ) (s : Sofar t line (drop i t) rest ns k) where
  module _ (here : i < length t) (is-gap : get_or t i 0 ≡ 35) where
    abbrev next_gap : drop i t ≡ get_or t i 0 ∷ drop (i + 1) t
    next_gap = drop_more t i 0 here

    pub at_numeral : (v e : ℕ) (behind : List ℕ) → behind ≡ drop e rest → k < length ns → Found rest v e → Sofar t line (drop (i + 1) t) behind (set ns k v) (k + 1)
    at_numeral v e behind is room found =
        subst (λ l. Sofar t line (drop (i + 1) t) l (set ns k v) (k + 1)) (sym is) (numeral_read s (get_or t i 0) (drop (i + 1) t) next_gap (eq-eqb _ _ is-gap) v e room found)

    pub no_numeral : (n : ℕ) → Begins rest None → Scans n t line None
    no_numeral n none _ c = numeral_missing s (get_or t i 0) (drop (i + 1) t) next_gap (eq-eqb _ _ is-gap) none c

  module _ (here : i < length t) (no_gap : get_or t i 0 ≡ 35 → ⊥) where
    abbrev next_byte : drop i t ≡ get_or t i 0 ∷ drop (i + 1) t
    next_byte = drop_more t i 0 here

    pub at_byte : (behind : List ℕ) → rest ≡ get_or t i 0 ∷ behind → Sofar t line (drop (i + 1) t) behind ns k
    at_byte behind is = byte_read s (get_or t i 0) (drop (i + 1) t) next_byte (ne_eqb _ _ no_gap) behind is

  module _ (done : length t ≤ i) where
    -- b tells whether the line is at its end too, and every number read
    pub all_read : (n : ℕ) (b : Bool) → length ns ≡ n → (b ≡ true → (rest ≡ []) × (k ≡ n)) → (b ≡ false → rest ≡ [] → k ≡ n → ⊥) → Scans n t line (then_some b ns)
    all_read = line_or_none s (drop_all i t done)
