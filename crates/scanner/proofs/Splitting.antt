-- The first line of a text.
use Rattle.std.proofs.Common.{◌≡◌, ℕ, suc, ◌+◌, ◌-◌, ◌<◌, ◌≤◌, true, false, ◌⊎◌, List, [], ◌∷◌, length, take, drop, sym, ap, ◌∙◌, inl, inr, one-add, arith}
use Rattle.std.proofs.lemmas.List.{drop_all, length-drop, take_all}
use Rattle.std.proofs.lemmas.List.Sums.{prefix_len-le-length}
use Rattle.std.proofs.lemmas.Bool.{cases_Bool, cases_lt, cond-true, cond-false}
use Rattle.scanner.specs.Lines.{inside, width, next_line, in_front, lines_of}

-- the lines of a text from its first line on
abbrev parted : List ℕ → List (List ℕ)
parted text = take (width text) text ∷ lines_of (drop (width text + 1) text)

module _ (b : ℕ) (bs : List ℕ) where
  parted_end : inside b ≡ false → lines_of (b ∷ bs) ≡ parted (b ∷ bs)
  parted_end a =
      cond-false (inside b) (in_front b (lines_of bs)) ([] ∷ lines_of bs) a
      ∙ sym (ap (λ n. take n (b ∷ bs) ∷ lines_of (drop (n + 1) (b ∷ bs))) (cond-false (inside b) (1 + width bs) 0 a))

  -- one byte more in front of the first line
  parted_inside : inside b ≡ true → parted (b ∷ bs) ≡ (b ∷ take (width bs) bs) ∷ lines_of (drop (width bs + 1) bs)
  parted_inside a =
      let w : width (b ∷ bs) ≡ suc (width bs) = cond-true (inside b) (1 + width bs) 0 a ∙ one-add (width bs) in
      let v : suc (width bs) + 1 ≡ suc (width bs + 1) = omega arith in
      ap (λ n. take n (b ∷ bs) ∷ lines_of (drop (n + 1) (b ∷ bs))) w
      ∙ ap (λ n. (b ∷ take (width bs) bs) ∷ lines_of (drop n (b ∷ bs))) v

  lines_inside : inside b ≡ true → lines_of (b ∷ bs) ≡ in_front b (lines_of bs)
  lines_inside a = cond-true (inside b) (in_front b (lines_of bs)) ([] ∷ lines_of bs) a

lines_parted : (b : ℕ) (bs : List ℕ) → lines_of (b ∷ bs) ≡ parted (b ∷ bs)
lines_parted b [] = elim (cases_Bool (inside b)) [ inl a ↦ lines_inside b [] a ∙ sym (parted_inside b [] a) | inr a ↦ parted_end b [] a ]
lines_parted b (c ∷ bs) = go (cases_Bool (inside b)) (lines_parted c bs)
  where
    go : (inside b ≡ true) ⊎ (inside b ≡ false) → lines_of (c ∷ bs) ≡ parted (c ∷ bs) → lines_of (b ∷ c ∷ bs) ≡ parted (b ∷ c ∷ bs)
    go (inl a) e = lines_inside b (c ∷ bs) a ∙ ap (in_front b) e ∙ sym (parted_inside b (c ∷ bs) a)
    go (inr a) e = parted_end b (c ∷ bs) a

pub width_within : (text : List ℕ) → width text ≤ length text
width_within text = prefix_len-le-length inside text

drop_next : (text : List ℕ) → drop (width text + 1) text ≡ drop (next_line text) text
drop_next text = go (cases_lt (width text) (length text))
  where
    go : (width text < length text) ⊎ (length text ≤ width text) → drop (width text + 1) text ≡ drop (next_line text) text
    go (inl h) = let e : width text + 1 ≡ next_line text = omega arith in ap (λ n. drop n text) e
    go (inr h) = drop_all (width text + 1) text (omega arith) ∙ sym (drop_all (next_line text) text (omega arith))

-- the first line, and the lines of the rest
pub first_and_rest : (text : List ℕ) → 0 < length text → lines_of text ≡ take (width text) text ∷ lines_of (drop (next_line text) text)
first_and_rest [] h = absurd (omega arith)
first_and_rest (b ∷ bs) h = lines_parted b bs ∙ ap (λ l. take (width (b ∷ bs)) (b ∷ bs) ∷ lines_of l) (drop_next (b ∷ bs))

-- the rest begins at n and goes to the end
module _ (text : List ℕ) (n : ℕ) (n-is : n ≡ next_line text) where
  abbrev behind : List ℕ
  behind = take (length text - n) (drop n text)

  behind_is : behind ≡ drop (next_line text) text
  behind_is = take_all (length text - n) (drop n text) (omega (arith, length-drop n text)) ∙ ap (λ k. drop k text) n-is

  pub line_then_rest : (e : ℕ) → e ≡ width text → 0 < length text → lines_of text ≡ take (e - 0) text ∷ lines_of behind
  line_then_rest e e-is some =
      let w : width text ≡ e - 0 = omega arith in
      first_and_rest text some ∙ (λ j. take (w j) text ∷ lines_of (sym behind_is j))

  pub rest_shorter : 0 < length text → length behind < length text
  rest_shorter some = omega (arith, ap length behind_is, length-drop (next_line text) text, width_within text)
