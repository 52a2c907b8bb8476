-- One thing is put after another.
use Rattle.std.proofs.Common.{◌≡◌, ℕ, ◌+◌, ◌-◌, ◌/◌, ◌%◌, ◌^◌, ◌<◌, ◌≤◌, List, [], ◌∷◌, ◌++◌, length, take, drop, decimal, sym, ap, ◌∙◌, subst, append_assoc, arith, length-append}
use Rattle.std.proofs.lemmas.List.{drop-drop}
use Rattle.std.proofs.lemmas.Fmt.{decimal_digit, decimal_step, length-decimal-le}
use Rattle.trace.specs.Puts.{Put}

-- behind a place from which nothing changed, nothing changed either
still : (xs ys : List ℕ) (m n : ℕ) → m ≤ n → drop m xs ≡ drop m ys → drop n xs ≡ drop n ys
still xs ys m n l e =
    let s : m + (n - m) ≡ n = omega arith in
    subst (λ k. drop k xs ≡ drop k ys) s (sym (drop-drop (n - m) m xs) ∙ ap (drop (n - m)) e ∙ drop-drop (n - m) m ys)

module _ (before between after : List ℕ) (at mid next : ℕ) (bytes more : List ℕ) (p : Put before at bytes between mid) (q : Put between mid more after next) where
  pub both : Put before at (bytes ++ more) after next
  both = record {
    place = omega (arith, p.place, q.place, length-append bytes more);
    front = q.front ∙ ap (λ l. l ++ more) p.front ∙ append_assoc (take at before) bytes more;
    back = q.back ∙ still between before mid next (omega (arith, q.place)) p.back;
  }

-- the digits of a number: one, or the last one behind those of a tenth of it
module _ (n : ℕ) (small : n < 2 ^ 32) where
  pub first_digit : (before after : List ℕ) (at next : ℕ) → n < 10 → Put before at ((48 + n) ∷ []) after next → Put before at (decimal n) after next
  first_digit before after at next l p = subst (λ ds. Put before at ds after next) (sym (decimal_digit n l)) p

  pub last_digit : (before between after : List ℕ) (at mid next : ℕ) → 10 ≤ n → Put before at (decimal (n / 10)) between mid → Put between mid ((48 + n % 10) ∷ []) after next → Put before at (decimal n) after next
  last_digit before between after at mid next l p q = subst (λ ds. Put before at ds after next) (sym (decimal_step n l (omega arith))) (both _ _ _ _ _ _ _ _ p q)

  -- nine digits at most before the last one
  pub few_before_last : length (decimal (n / 10)) ≤ 9
  few_before_last = length-decimal-le 9 (n / 10) (omega arith) (omega arith) (omega arith)
