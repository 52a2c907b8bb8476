-- Numerals of numbers of any size: each number has one, and each numeral is that of its value.
use Rattle.std.proofs.Common.{◌≡◌, ℕ, zero, suc, ◌+◌, ◌-◌, ◌*◌, ◌/◌, ◌%◌, ◌^◌, ◌<◌, ◌≤◌, ◌⊎◌, List, [], ◌∷◌, ◌++◌, map, length, get_or, decimal, sym, refl, ap, ◌∙◌, inl, inr, append_assoc, append-nil, arith}
use lib.Arith.{digits_div, digits_mod}
use Rattle.std.specs.Int.Digits.{digits_of, number_from_digits_after, AllBelowBase}
use Rattle.std.specs.List.{AllByRecursion}
use Rattle.std.proofs.lemmas.Fmt.{decimal_digit, decimal-digits_of}
use Rattle.std.proofs.lemmas.Int.Digits.{digits_of_step, all_below_base_digits_of, first_digits_of, number_digits_of}
use Rattle.std.proofs.lemmas.List.{length-map}
use Rattle.std.proofs.lemmas.Bool.{cases_eq}
use Rattle.scanner.specs.Numerals.{Digit, Numeral, read_on, value}
use Rattle.form_texts.specs.Texts.{numeral}

abbrev glyph : ℕ → ℕ
glyph d = 48 + d

abbrev digit_of : ℕ → ℕ
digit_of c = c - 48

numeral_above : (n : ℕ) → 0 < n → numeral n ≡ map glyph (digits_of 10 n)
unfolding numeral
numeral_above zero h = absurd (omega arith)
numeral_above (suc n) h = refl

numeral_zero : numeral 0 ≡ 48 ∷ []
unfolding numeral
numeral_zero = refl

-- what the digits write
read_glyphs : (n : ℕ) (ds : List ℕ) → read_on n (map glyph ds) ≡ number_from_digits_after 10 n ds
read_glyphs n [] = refl
read_glyphs n (d ∷ ds) =
    let e : n * 10 + (48 + d - 48) ≡ n * 10 + d = omega arith in
    ap (λ m. read_on m (map glyph ds)) e ∙ read_glyphs (n * 10 + d) ds

glyphs_digits : (ds : List ℕ) → AllBelowBase 10 ds → AllByRecursion Digit (map glyph ds)
glyphs_digits [] u = tt
glyphs_digits (d ∷ ds) u = ((omega arith, omega (arith, u.0)), glyphs_digits ds u.1)

first_glyph : (ds : List ℕ) → 0 < get_or ds 0 0 → get_or (map glyph ds) 0 0 ≡ 48 → ⊥
first_glyph [] h e = omega (arith, h)
first_glyph (d ∷ ds) h e = omega (arith, h, e)

some_digit : (ds : List ℕ) → 0 < get_or ds 0 0 → 0 < length ds
some_digit [] h = h
some_digit (d ∷ ds) h = omega arith

-- a number's numeral
pub value_numeral : (n : ℕ) → value (numeral n) ≡ n
value_numeral n = go (cases_eq n 0)
  where
    go : (n ≡ 0) ⊎ (n ≡ 0 → ⊥) → value (numeral n) ≡ n
    go (inl e) = ap (λ m. value (numeral m)) e ∙ ap value numeral_zero ∙ sym e
    go (inr ne) = ap value (numeral_above n (omega arith)) ∙ read_glyphs 0 (digits_of 10 n) ∙ number_digits_of 10 n (omega arith)

pub numeral_is : (n : ℕ) → Numeral (numeral n)
numeral_is n = go (cases_eq n 0)
  where
    go : (n ≡ 0) ⊎ (n ≡ 0 → ⊥) → Numeral (numeral n)
    go (inl e) = rw (e, numeral_zero) (record { digits = ((omega arith, omega arith), tt); some = omega arith; first = λ h. refl })
    go (inr ne) =
        let h : 0 < n = omega arith in
        let ds = digits_of 10 n in
        let p = first_digits_of 10 n (omega arith) h in
        rw (numeral_above n h) (record {
          digits = glyphs_digits ds (all_below_base_digits_of 10 n (omega arith));
          some = omega (arith, length-map ds glyph, some_digit ds p);
          first = λ e. absurd (first_glyph ds p e);
        })

-- and a numeral is that of its value: from the left, each digit is one more of the number so far
digits_on : (n : ℕ) (cs : List ℕ) → 0 < n → AllByRecursion Digit cs → digits_of 10 (read_on n cs) ≡ digits_of 10 n ++ map digit_of cs
digits_on n [] h d = sym (append-nil (digits_of 10 n))
digits_on n (c ∷ cs) h d =
    let x = c - 48 in
    let m = n * 10 + x in
    let small : x < 10 = omega (arith, d.0.1) in
    let step : digits_of 10 m ≡ digits_of 10 n ++ (x ∷ []) =
    digits_of_step 10 m (omega arith) (omega arith) ∙ (λ j. digits_of 10 (digits_div n small j) ++ (digits_mod n small j ∷ [])) in
    digits_on m cs (omega arith) d.1
    ∙ ap (λ l. l ++ map digit_of cs) step
    ∙ append_assoc (digits_of 10 n) (x ∷ []) (map digit_of cs)

glyphs_of : (cs : List ℕ) → AllByRecursion Digit cs → map glyph (map digit_of cs) ≡ cs
glyphs_of [] d = refl
glyphs_of (c ∷ cs) d =
    let e : 48 + (c - 48) ≡ c = omega (arith, d.0.0) in
    let es = glyphs_of cs d.1 in
    λ j. e j ∷ es j

read_on_least : (n : ℕ) (cs : List ℕ) → n ≤ read_on n cs
read_on_least n [] = omega arith
read_on_least n (c ∷ cs) = omega (arith, read_on_least (n * 10 + (c - 48)) cs)

pub numeral_value : (ds : List ℕ) → Numeral ds → numeral (value ds) ≡ ds
numeral_value [] p = absurd (omega (arith, p.some))
numeral_value (c ∷ cs) p = go (cases_eq c 48)
  where
    n : ℕ
    n = 0 * 10 + (c - 48)

    alone : (xs : List ℕ) → length (c ∷ xs) ≡ 1 → xs ≡ []
    alone [] e = refl
    alone (x ∷ xs) e = absurd (omega (arith, e))

    go : (c ≡ 48) ⊎ (c ≡ 48 → ⊥) → numeral (value (c ∷ cs)) ≡ c ∷ cs
    go (inl e) = let none = alone cs (p.first e) in rw (none, e) numeral_zero
    go (inr ne) =
        let some : 0 < n = omega (arith, p.digits.0.0) in
        let small : n < 10 = omega (arith, p.digits.0.1) in
        let quotient : n / 10 ≡ 0 = omega arith in
        let remainder : n % 10 ≡ n = omega arith in
        let front : digits_of 10 n ≡ n ∷ [] = digits_of_step 10 n (omega arith) some ∙ (λ j. digits_of 10 (quotient j) ++ (remainder j ∷ [])) in
        let e : 48 + n ≡ c = omega (arith, p.digits.0.0) in
        numeral_above (read_on n cs) (omega (arith, read_on_least n cs))
        ∙ ap (map glyph) (digits_on n cs some p.digits.1 ∙ ap (λ l. l ++ map digit_of cs) front)
        ∙ (λ j. e j ∷ glyphs_of cs p.digits.1 j)

-- what is printed of a number of 64 bits
pub numeral_printed : (n : ℕ) → n < 2 ^ 64 → numeral n ≡ decimal n
numeral_printed n small = go (cases_eq n 0)
  where
    go : (n ≡ 0) ⊎ (n ≡ 0 → ⊥) → numeral n ≡ decimal n
    go (inl e) = ap numeral e ∙ numeral_zero ∙ sym (ap decimal e ∙ decimal_digit 0 (omega arith))
    go (inr ne) = numeral_above n (omega arith) ∙ sym (decimal-digits_of n (omega arith) small)
