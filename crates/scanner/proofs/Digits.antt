-- Digits in front of what is no digit.
use Rattle.std.proofs.Common.{◌≡◌, ℕ, ◌+◌, ◌-◌, ◌*◌, ◌^◌, ◌<◌, min, ◌⊎◌, List, [], ◌∷◌, ◌++◌, map, length, get_or, take, drop, decimal, sym, refl, ap, ◌∙◌, subst, inl, inr, arith, take-append-drop, rules}
use Rattle.std.specs.List.{AllByRecursion}
use Rattle.std.proofs.lemmas.List.{take_more}
use Rattle.std.proofs.lemmas.Bool.{cases_eq}
use Rattle.std.proofs.lemmas.Str.Parse.{IsNumeralModel, numerals_by_fold}
use Rattle.std.proofs.lemmas.Fmt.{decimal_digit, decimal_nonempty, first_decimal, digits_decimal, digits_value-decimal, decimal-digits_value}
use Rattle.scanner.specs.Numerals.{Digit, Numeral, read_on, value, told, Stop}

read_on_push : (n : ℕ) (xs : List ℕ) (c : ℕ) → read_on n (xs ++ c ∷ []) ≡ read_on n xs * 10 + (c - 48)
read_on_push n [] c = refl
read_on_push n (x ∷ xs) c = read_on_push (n * 10 + (x - 48)) xs c

-- one digit more, where all that are too large are told as the largest
pub told_more : (s : List ℕ) (i n : ℕ) → i < length s → n ≡ told (take i s) → min 4294967295 (n * 10 + (get_or s i 0 - 48)) ≡ told (take (i + 1) s)
told_more s i n l e = rw (take_more s i 0 l, read_on_push 0 (take i s) (get_or s i 0)) (omega arith)

-- digits up to what is none can be split off in one way only
pub unique : (xs ys a b : List ℕ) → AllByRecursion Digit xs → AllByRecursion Digit ys → Stop a → Stop b → xs ++ a ≡ ys ++ b → (xs ≡ ys) × (a ≡ b)
unique [] [] a b dx dy sa sb e = (refl, e)
unique [] (y ∷ ys) [] b dx dy sa sb e = let z : ◌≡◌ {A = ℕ} 0 1 = cc in absurd (omega arith)
unique [] (y ∷ ys) (c ∷ a) b dx dy sa sb e = let h : c ≡ y = cc in absurd (sa (subst Digit (sym h) dy.0))
unique (x ∷ xs) [] a [] dx dy sa sb e = let z : ◌≡◌ {A = ℕ} 0 1 = cc in absurd (omega arith)
unique (x ∷ xs) [] a (c ∷ b) dx dy sa sb e = let h : x ≡ c = cc in absurd (sb (subst Digit h dx.0))
unique (x ∷ xs) (y ∷ ys) a b dx dy sa sb e =
    let h : x ≡ y = cc in
    let t : xs ++ a ≡ ys ++ b = cc in
    let r = unique xs ys a b dx.1 dy.1 sa sb t in
    (cc r.0, r.1)

-- so a numeral in front is all the digits that are there
pub only_numeral : (s front : List ℕ) (e : ℕ) → front ≡ take e s → AllByRecursion Digit (take e s) → Stop (drop e s) → (ds rest : List ℕ) → Numeral ds → Stop rest → s ≡ ds ++ rest → Numeral front
only_numeral s front e is d st ds rest p sr q =
    let h = unique (take e s) ds (drop e s) rest d p.digits st sr (take-append-drop e s ∙ q) in
    subst Numeral (sym (is ∙ h.0)) p

own : IsNumeralModel (AllByRecursion Digit) value
own = numerals_by_fold (AllByRecursion Digit) (search rules) read_on (search rules)

-- what is printed of a number is a numeral, of that value
pub printed_numeral : (n : ℕ) → n < 2 ^ 64 → Numeral (decimal n)
printed_numeral n small = record { digits = digits_decimal own n small; some = decimal_nonempty n small; first = go (cases_eq n 0) }
  where
    go : (n ≡ 0) ⊎ (n ≡ 0 → ⊥) → get_or (decimal n) 0 0 ≡ 48 → length (decimal n) ≡ 1
    go (inl e) z = ap (λ m. length (decimal m)) e ∙ ap length (decimal_digit 0 (omega arith))
    go (inr ne) z = absurd (omega (arith, z, first_decimal n (omega arith) small))

pub printed_value : (n : ℕ) → n < 2 ^ 64 → value (decimal n) ≡ n
printed_value n small = digits_value-decimal own n small

-- a numeral is what is printed of its value
numeral_printed : (ds : List ℕ) → Numeral ds → value ds < 2 ^ 64 → ds ≡ decimal (value ds)
numeral_printed ds p small = sym (decimal-digits_value own ds p.digits p.some p.first small)

-- so numerals are what is printed of the numbers that are told of them, where none is the largest
pub numerals_printed : (ds : List (List ℕ)) → AllByRecursion Numeral ds → AllByRecursion (λ n. n < 4294967295) (map told ds) → ds ≡ map decimal (map told ds)
numerals_printed [] p small = refl
numerals_printed (d ∷ ds) p small =
    let v : told d ≡ value d = omega (arith, small.0) in
    let e : d ≡ decimal (told d) = numeral_printed d p.0 (omega (arith, small.0)) ∙ ap decimal (sym v) in
    let es = numerals_printed ds p.1 small.1 in
    λ j. e j ∷ es j
