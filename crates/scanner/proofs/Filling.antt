-- What a template writes, byte by byte, and that a clear one writes no line in two ways.
use Rattle.std.proofs.Common.{◌≡◌, ℕ, ◌+◌, true, false, ◌&&◌, ◌⊎◌, List, [], ◌∷◌, ◌++◌, length, sym, refl, ◌∙◌, subst, inl, inr, arith}
use Rattle.std.proofs.lemmas.Bool.{cases_Bool, cond-true, cond-false}
use Rattle.std.proofs.lemmas.Bool.Decides.{nat_tests}
use Rattle.scanner.specs.Numerals.{Stop}
use Rattle.scanner.specs.Templates.{gap, gaps, fill_gap, fill, Filled, parted, clear}
use Rattle.scanner.proofs.Digits.{unique}

-- what the next byte of the template writes
module _ (c : ℕ) (t : List ℕ) where
  pub fill_byte : gap c ≡ false → (ds : List (List ℕ)) → fill (c ∷ t) ds ≡ c ∷ fill t ds
  fill_byte g ds = cond-false (gap c) (fill_gap (fill t) ds) (c ∷ fill t ds) g

  pub fill_next : gap c ≡ true → (d : List ℕ) (ds : List (List ℕ)) → fill (c ∷ t) (d ∷ ds) ≡ d ++ fill t ds
  fill_next g d ds = cond-true (gap c) (d ++ fill t ds) (c ∷ fill t (d ∷ ds)) g

  pub gaps_byte : gap c ≡ false → gaps (c ∷ t) ≡ gaps t
  gaps_byte g = cond-false (gap c) (gaps t + 1) (gaps t) g

  pub gaps_next : gap c ≡ true → gaps (c ∷ t) ≡ gaps t + 1
  gaps_next g = cond-true (gap c) (gaps t + 1) (gaps t) g

  pub clear_byte : gap c ≡ false → clear (c ∷ t) ≡ true → clear t ≡ true
  clear_byte g h = sym (cond-false (gap c) (parted t && clear t) (clear t) g) ∙ h

  pub clear_next : gap c ≡ true → clear (c ∷ t) ≡ true → (parted t ≡ true) × (clear t ≡ true)
  clear_next g h = let e : (parted t && clear t) ≡ true = sym (cond-true (gap c) (parted t && clear t) (clear t) g) ∙ h in (grind (arith, nat_tests, e), grind (arith, nat_tests, e))

-- where the template goes on with neither digit nor gap, no digit follows
pub stop_fill : (t : List ℕ) (ds : List (List ℕ)) → parted t ≡ true → Stop (fill t ds)
stop_fill [] ds p = tt
stop_fill (c ∷ t) ds p =
    let g : gap c ≡ false = grind (arith, nat_tests, p) in
    subst Stop (sym (fill_byte c t g ds)) (λ d. grind (arith, nat_tests, p, d.0, d.1))

-- the numerals that fill the rest of a template
module _ (c : ℕ) (t line : List ℕ) where
  rest_byte : gap c ≡ false → (ds : List (List ℕ)) → Filled (c ∷ t) line ds → (line ≡ c ∷ fill t ds) × Filled t (fill t ds) ds
  rest_byte g ds f = (f.is ∙ fill_byte c t g ds, record { numerals = f.numerals; count = f.count ∙ gaps_byte c t g; is = refl })

  rest_next : gap c ≡ true → (d : List ℕ) (ds : List (List ℕ)) → Filled (c ∷ t) line (d ∷ ds) → (line ≡ d ++ fill t ds) × Filled t (fill t ds) ds
  rest_next g d ds f = (f.is ∙ fill_next c t g d ds, record { numerals = f.numerals.1; count = omega (arith, f.count, gaps_next c t g); is = refl })

same_rest : (t : List ℕ) (ds es : List (List ℕ)) → fill t es ≡ fill t ds → Filled t (fill t es) es → Filled t (fill t ds) es
same_rest t ds es e f = record { numerals = f.numerals; count = f.count; is = sym e }

no_numerals : (ds : List (List ℕ)) → length ds ≡ 0 → ds ≡ []
no_numerals [] e = refl
no_numerals (d ∷ ds) e = absurd (omega (arith, e))

pub filled_once : (t line : List ℕ) (ds es : List (List ℕ)) → clear t ≡ true → Filled t line ds → Filled t line es → ds ≡ es
filled_once [] line ds es c f g = no_numerals ds f.count ∙ sym (no_numerals es g.count)
filled_once (b ∷ t) line ds es c f g = go (cases_Bool (gap b)) ds es f g (λ xs ys. filled_once t (fill t xs) xs ys)
  where
    go : (gap b ≡ true) ⊎ (gap b ≡ false) → (ds es : List (List ℕ)) → Filled (b ∷ t) line ds → Filled (b ∷ t) line es → ((xs ys : List (List ℕ)) → clear t ≡ true → Filled t (fill t xs) xs → Filled t (fill t xs) ys → xs ≡ ys) → ds ≡ es
    go (inr n) ds es f g ih =
        let p = rest_byte b t line n ds f in
        let q = rest_byte b t line n es g in
        let e : b ∷ fill t es ≡ b ∷ fill t ds = sym q.0 ∙ p.0 in
        ih ds es (clear_byte b t n c) p.1 (same_rest t ds es (cc) q.1)
    go (inl y) [] es f g ih = absurd (omega (arith, f.count, gaps_next b t y))
    go (inl y) (d ∷ ds) [] f g ih = absurd (omega (arith, g.count, gaps_next b t y))
    go (inl y) (d ∷ ds) (x ∷ es) f g ih =
        let p = rest_next b t line y d ds f in
        let q = rest_next b t line y x es g in
        let h = clear_next b t y c in
        let u = unique d x (fill t ds) (fill t es) f.numerals.0.digits g.numerals.0.digits (stop_fill t ds h.0) (stop_fill t es h.0) (sym p.0 ∙ q.0) in
        λ j. u.0 j ∷ ih ds es h.1 p.1 (same_rest t ds es (sym u.1) q.1) j
