-- The machine's reader along a shape: words that stand as they are, with a numeral after each, and an end.
use Rattle.std.proofs.Common.{◌≡◌, ℕ, suc, ◌+◌, ◌-◌, ◌*◌, Bool, true, false, eqb, ◌⊎◌, List, [], ◌∷◌, ◌++◌, map, length, Some, None, Option, sym, refl, ap, ◌∙◌, subst, inl, inr, append-nil, arith}
use Rattle.std.specs.List.{AllByRecursion}
use Rattle.std.proofs.lemmas.Bool.{cases_eq, eq-eqb, ne_eqb, eqb-true, eqb-false}
use Rattle.std.proofs.lemmas.Bool.Decides.{nat_tests}
use Rattle.scanner.specs.Numerals.{Digit, Numeral, read_on, value, Stop}
use Rattle.machine.specs.Reading.{bind, after_word, is_digit, more_digits, number_at, at_end, scan}

-- what binding gives came from something
bound : {A B : Type 0} (o : Option A) (f : A → Option B) (b : B) → bind o f ≡ Some b → (a : A) × (o ≡ Some a) × (f a ≡ Some b)
bound None f b e = let z : ◌≡◌ {A = ℕ} 0 1 = cc in absurd (omega arith)
bound (Some a) f b e = (a, refl, e)

-- Words.

word_split : (w bs r : List ℕ) → after_word w bs ≡ Some r → bs ≡ w ++ r
word_split [] bs r e = cc
word_split (x ∷ w) [] r e = let z : ◌≡◌ {A = ℕ} 0 1 = cc in absurd (omega arith)
word_split (x ∷ w) (b ∷ bs) r e = go (eqb b x) refl e (word_split w bs r)
  where
    go : (v : Bool) → eqb b x ≡ v → elim v [ true ↦ after_word w bs | false ↦ None ] ≡ Some r → (after_word w bs ≡ Some r → bs ≡ w ++ r) → b ∷ bs ≡ x ∷ (w ++ r)
    go true t h ih = let here = eqb-true b x t in let there = ih h in λ j. here j ∷ there j
    go false t h ih = let z : ◌≡◌ {A = ℕ} 0 1 = cc in absurd (omega arith)

word_read : (w r : List ℕ) → after_word w (w ++ r) ≡ Some r
word_read [] r = refl
word_read (x ∷ w) r = ap (λ (v : Bool). elim v [ true ↦ after_word w (w ++ r) | false ↦ None ]) (eq-eqb x x refl) ∙ word_read w r

end_split : (bs r : List ℕ) → at_end bs ≡ Some r → bs ≡ []
end_split [] r e = refl
end_split (b ∷ bs) r e = let z : ◌≡◌ {A = ℕ} 0 1 = cc in absurd (omega arith)

-- Numbers.

digit_test : (b : ℕ) → is_digit b ≡ true → Digit b
digit_test b t = (grind (arith, nat_tests, t), grind (arith, nat_tests, t))

test_digit : (b : ℕ) → Digit b → is_digit b ≡ true
test_digit b d = grind (arith, nat_tests, d.0, d.1)

test_other : (b : ℕ) → (Digit b → ⊥) → is_digit b ≡ false
test_other b n = go (is_digit b) refl
  where
    go : (v : Bool) → is_digit b ≡ v → v ≡ false
    go true t = absurd (n (digit_test b t))
    go false t = refl

-- digits that were gone through, up to the rest
pub record DigitsBefore (n : ℕ) (bs : List ℕ) (m : ℕ) (rest : List ℕ) : Type 0 where
  pub digits : List ℕ
  pub each : AllByRecursion Digit digits
  pub is : bs ≡ digits ++ rest
  pub number : m ≡ read_on n digits

module _ (n b : ℕ) (bs : List ℕ) where
  abbrev after : ℕ
  after = n * 10 + (b - 48)

  abbrev more_by : Bool → ℕ × List ℕ
  more_by v = elim v [ true ↦ more_digits after bs | false ↦ (n, b ∷ bs) ]

  split_by : (v : Bool) → (v ≡ true → Digit b) → DigitsBefore after bs (more_digits after bs).0 (more_digits after bs).1 → DigitsBefore n (b ∷ bs) (more_by v).0 (more_by v).1
  split_by true d h = record { digits = b ∷ h.digits; each = (d refl, h.each); is = ap (λ l. b ∷ l) h.is; number = h.number }
  split_by false d h = record { digits = []; each = tt; is = refl; number = refl }

more_split : (n : ℕ) (bs : List ℕ) → DigitsBefore n bs (more_digits n bs).0 (more_digits n bs).1
more_split n [] = record { digits = []; each = tt; is = refl; number = refl }
more_split n (b ∷ bs) = split_by n b bs (is_digit b) (digit_test b) (more_split (n * 10 + (b - 48)) bs)

more_read : (n : ℕ) (ds rest : List ℕ) → AllByRecursion Digit ds → Stop rest → more_digits n (ds ++ rest) ≡ (read_on n ds, rest)
more_read n [] [] d s = refl
more_read n [] (c ∷ rest) d s = ap (λ v. more_by n c rest v) (test_other c s)
more_read n (b ∷ ds) rest d s = ap (λ v. more_by n b (ds ++ rest) v) (test_digit b d.0) ∙ more_read (n * 10 + (b - 48)) ds rest d.1 s

-- the numeral at the front
pub record NumeralBefore (bs : List ℕ) (n : ℕ) (rest : List ℕ) : Type 0 where
  pub digits : List ℕ
  pub numeral : Numeral digits
  pub is : bs ≡ digits ++ rest
  pub number : n ≡ value digits

module _ (b : ℕ) (bs : List ℕ) where
  abbrev number_by : Bool → Bool → Option (ℕ × List ℕ)
  number_by z v = elim z [ true ↦ Some (0, bs) | false ↦ elim v [ true ↦ Some (more_digits (b - 48) bs) | false ↦ None ] ]

  number_split_by : (z v : Bool) (p : ℕ × List ℕ) → (z ≡ true → b ≡ 48) → (z ≡ false → b ≡ 48 → ⊥) → (v ≡ true → Digit b) → number_by z v ≡ Some p → NumeralBefore (b ∷ bs) p.0 p.1
  number_split_by true v p zero other d e =
      let q : (0, bs) ≡ p = cc in
      record {
        digits = b ∷ [];
        numeral = record { digits = ((omega (arith, zero refl), omega (arith, zero refl)), tt); some = omega arith; first = λ h. refl };
        is = ap (λ l. b ∷ l) (ap (λ x. x.1) q);
        number = sym (ap (λ x. x.0) q) ∙ omega (arith, zero refl);
      }
  number_split_by false true p zero other d e =
      let q : more_digits (b - 48) bs ≡ p = cc in
      let h = more_split (b - 48) bs in
      record {
        digits = b ∷ h.digits;
        numeral = record { digits = (d refl, h.each); some = omega arith; first = λ c. absurd (other refl c) };
        is = ap (λ l. b ∷ l) (h.is ∙ ap (λ x. h.digits ++ x.1) q);
        number = sym (ap (λ x. x.0) q) ∙ h.number ∙ ap (λ m. read_on m h.digits) (omega arith);
      }
  number_split_by false false p zero other d e = let z : ◌≡◌ {A = ℕ} 0 1 = cc in absurd (omega arith)

number_split : (bs : List ℕ) (p : ℕ × List ℕ) → number_at bs ≡ Some p → NumeralBefore bs p.0 p.1
number_split [] p e = let z : ◌≡◌ {A = ℕ} 0 1 = cc in absurd (omega arith)
number_split (b ∷ bs) p e = number_split_by b bs (eqb b 48) (is_digit b) p (eqb-true b 48) (eqb-false b 48) (digit_test b) e

number_read : (ds rest : List ℕ) → Numeral ds → Stop rest → number_at (ds ++ rest) ≡ Some (value ds, rest)
number_read [] rest p s = absurd (omega (arith, p.some))
number_read (c ∷ cs) rest p s = go (cases_eq c 48)
  where
    alone : (xs : List ℕ) → length (c ∷ xs) ≡ 1 → xs ≡ []
    alone [] e = refl
    alone (x ∷ xs) e = absurd (omega (arith, e))

    go : (c ≡ 48) ⊎ (c ≡ 48 → ⊥) → number_at (c ∷ (cs ++ rest)) ≡ Some (value (c ∷ cs), rest)
    go (inl e) =
        let none = alone cs (p.first e) in
        let v : 0 ≡ value (c ∷ []) = omega (arith, e) in
        ap (λ z. number_by c (cs ++ rest) z (is_digit c)) (eq-eqb c 48 e)
        ∙ (λ j. Some (v j, none j ++ rest))
        ∙ ap (λ l. Some (value (c ∷ l), rest)) (sym none)
    go (inr ne) =
        let front : c - 48 ≡ 0 * 10 + (c - 48) = omega arith in
        ap (λ z. number_by c (cs ++ rest) z (is_digit c)) (ne_eqb c 48 ne)
        ∙ ap (λ v. number_by c (cs ++ rest) false v) (test_digit c p.digits.0)
        ∙ ap Some (more_read (c - 48) cs rest p.digits.1 s)
        ∙ ap (λ m. Some (read_on m cs, rest)) front

-- Shapes.

-- the words with the numerals between them
abbrev pub laid : List (List ℕ) → List ℕ → List (List ℕ) → List ℕ
laid [] last ds = last
laid (w ∷ ws) last [] = w
laid (w ∷ ws) last (d ∷ ds) = w ++ (d ++ laid ws last ds)

-- the bytes are of the shape, and these are its numbers
pub record OfShape (ws : List (List ℕ)) (last bs ns : List ℕ) : Type 0 where
  pub numerals : List (List ℕ)
  pub each : AllByRecursion Numeral numerals
  pub count : length numerals ≡ length ws
  pub is : bs ≡ laid ws last numerals
  pub numbers : ns ≡ map value numerals

pub scan_split : (ws : List (List ℕ)) (last bs ns : List ℕ) → scan ws last bs ≡ Some ns → OfShape ws last bs ns
scan_split [] last bs ns e =
    let b = bound (after_word last bs) at_end ns e in
    let none = end_split b.0 ns b.2 in
    record {
      numerals = [];
      each = tt;
      count = refl;
      is = word_split last bs b.0 b.1 ∙ ap (λ l. last ++ l) none ∙ append-nil last;
      numbers = let q : at_end [] ≡ Some ns = ap at_end (sym none) ∙ b.2 in cc;
    }
scan_split (w ∷ ws) last bs ns e =
    let a = bound (after_word w bs) _ ns e in
    let b = bound (number_at a.0) _ ns a.2 in
    let c = bound (scan ws last b.0.1) _ ns b.2 in
    let d = number_split a.0 b.0 b.1 in
    let h = scan_split ws last b.0.1 c.0 c.1 in
    record {
      numerals = d.digits ∷ h.numerals;
      each = (d.numeral, h.each);
      count = ap suc h.count;
      is = word_split w bs a.0 a.1 ∙ ap (λ l. w ++ l) (d.is ∙ ap (λ l. d.digits ++ l) h.is);
      numbers =
          let q : b.0.0 ∷ c.0 ≡ ns = cc in
          sym q ∙ (λ j. d.number j ∷ h.numbers j);
    }

pub scan_step : (w : List ℕ) (ws : List (List ℕ)) (last d rest : List ℕ) → Numeral d → Stop rest → scan (w ∷ ws) last (w ++ (d ++ rest)) ≡ bind (scan ws last rest) (λ ns. Some (value d ∷ ns))
scan_step w ws last d rest p s =
    ap (λ o. bind o (λ r. bind (number_at r) (λ q. bind (scan ws last q.1) (λ ns. Some (q.0 ∷ ns))))) (word_read w (d ++ rest))
    ∙ ap (λ o. bind o (λ q. bind (scan ws last q.1) (λ ns. Some (q.0 ∷ ns)))) (number_read d rest p s)

pub scan_last : (last : List ℕ) → scan [] last last ≡ Some []
scan_last last = ap (λ l. scan [] last l) (sym (append-nil last)) ∙ ap (λ o. bind o at_end) (word_read last [])

-- a word, and the end, begins with a byte that is no digit
abbrev pub Mark : List ℕ → Type 0
Mark [] = ⊥
Mark (c ∷ cs) = Digit c → ⊥

abbrev pub Marks : List (List ℕ) → List ℕ → Type 0
Marks [] last = Mark last
Marks (w ∷ ws) last = Mark w × Marks ws last

mark_stops : (w rest : List ℕ) → Mark w → Stop (w ++ rest)
mark_stops [] rest m = absurd m
mark_stops (c ∷ cs) rest m = m

laid_stops : (ws : List (List ℕ)) (last : List ℕ) (ds : List (List ℕ)) → Marks ws last → Stop (laid ws last ds)
laid_stops [] last ds m = subst Stop (append-nil last) (mark_stops last [] m)
laid_stops (w ∷ ws) last [] m = subst Stop (append-nil w) (mark_stops w [] m.0)
laid_stops (w ∷ ws) last (d ∷ ds) m = mark_stops w (d ++ laid ws last ds) m.0

pub scan_read : (ws : List (List ℕ)) (last : List ℕ) (ds : List (List ℕ)) → Marks ws last → AllByRecursion Numeral ds → length ds ≡ length ws → scan ws last (laid ws last ds) ≡ Some (map value ds)
scan_read [] last [] m p e = scan_last last
scan_read [] last (d ∷ ds) m p e = absurd (omega (arith, e))
scan_read (w ∷ ws) last [] m p e = absurd (omega (arith, e))
scan_read (w ∷ ws) last (d ∷ ds) m p e =
    scan_step w ws last d (laid ws last ds) p.0 (laid_stops ws last ds m.1)
    ∙ ap (λ o. bind o (λ ns. Some (value d ∷ ns))) (scan_read ws last ds m.1 p.1 (omega (arith, e)))

-- bytes that are of the front words, and go on as the other words do not
pub scan_diverges : (vs ws : List (List ℕ)) (last rest : List ℕ) (ds : List (List ℕ)) → Marks vs rest → AllByRecursion Numeral ds → length ds ≡ length vs → scan ws last rest ≡ None → scan (vs ++ ws) last (laid vs rest ds) ≡ None
scan_diverges [] ws last rest ds m p e none = none
scan_diverges (v ∷ vs) ws last rest [] m p e none = absurd (omega (arith, e))
scan_diverges (v ∷ vs) ws last rest (d ∷ ds) m p e none =
    scan_step v (vs ++ ws) last d (laid vs rest ds) p.0 (laid_stops vs rest ds m.1)
    ∙ ap (λ o. bind o (λ ns. Some (value d ∷ ns))) (scan_diverges vs ws last rest ds m.1 p.1 (omega (arith, e)) none)
