-- Lines tell one list of orders, or one line is the first that tells none.
use Rattle.std.proofs.Common.{◌≡◌, ℕ, suc, ◌+◌, List, [], ◌∷◌, ◌++◌, map, length, Ok, Err, sym, refl, ap, ◌∙◌, subst, arith}
use Rattle.std.specs.List.{AllByRecursion}
use Rattle.elements.specs.declared.lines.LineEntry.{LineEntry}
use Rattle.waiting_orders.specs.declared.Unreadable.{Unreadable}
use Rattle.waiting_orders.specs.Forms.{numbers_of, written, InRange, Reads}
use Rattle.waiting_orders.specs.Lines.{Listed, Broken}
use Rattle.waiting_orders.proofs.Reading.{reads_once}

abbrev Range : LineEntry → Type 0
Range e = InRange (numbers_of e)

same_written : (x y : LineEntry) → Range x → Range y → written x ≡ written y → x ≡ y
same_written x y r s e = let o = reads_once (written x) (Ok x) (Ok y) (refl, r) (e, s) in cc

not_written : (x : LineEntry) (line : List ℕ) (why : Unreadable) → Range x → Reads line (Err why) → line ≡ written x → ⊥
not_written x line why r u e =
    let o = reads_once line (Ok x) (Err why) (e, r) u in
    let z : ◌≡◌ {A = ℕ} 0 1 = cc in
    omega arith

same_all : (xs ys : List LineEntry) → AllByRecursion Range xs → AllByRecursion Range ys → map written xs ≡ map written ys → xs ≡ ys
same_all [] [] r s e = refl
same_all [] (y ∷ ys) r s e = let z : ◌≡◌ {A = ℕ} 0 1 = cc in absurd (omega arith)
same_all (x ∷ xs) [] r s e = let z : ◌≡◌ {A = ℕ} 0 1 = cc in absurd (omega arith)
same_all (x ∷ xs) (y ∷ ys) r s e =
    let h : written x ≡ written y = cc in
    let t : map written xs ≡ map written ys = cc in
    let p = same_written x y r.0 s.0 h in
    let q = same_all xs ys r.1 s.1 t in
    λ j. p j ∷ q j

pub listed_once : (lines : List (List ℕ)) (xs ys : List LineEntry) → Listed lines xs → Listed lines ys → xs ≡ ys
listed_once lines xs ys l m = same_all xs ys l.ranges m.ranges (sym l.is ∙ m.is)

-- a line that tells none stands in no list of orders
module _ (line : List ℕ) (why : Unreadable) (unread : Reads line (Err why)) (behind : List (List ℕ)) where
  not_all : (xs before : List LineEntry) → AllByRecursion Range xs → map written xs ≡ map written before ++ line ∷ behind → ⊥
  not_all [] [] r e = let z : ◌≡◌ {A = ℕ} 0 1 = cc in omega arith
  not_all [] (b ∷ bs) r e = let z : ◌≡◌ {A = ℕ} 0 1 = cc in omega arith
  not_all (x ∷ xs) [] r e = not_written x line why r.0 unread cc
  not_all (x ∷ xs) (b ∷ bs) r e = not_all xs bs r.1 cc

pub listed_not_broken : (lines : List (List ℕ)) (xs : List LineEntry) (n : ℕ) (why : Unreadable) → Listed lines xs → Broken lines n why → ⊥
listed_not_broken lines xs n why l b = not_all b.line why b.unread b.behind xs b.before l.ranges (sym l.is ∙ b.is)

module _ (l m : List ℕ) (v w : Unreadable) (u : Reads l (Err v)) (u' : Reads m (Err w)) (ls ms : List (List ℕ)) where
  same_first : (bs cs : List LineEntry) → AllByRecursion Range bs → AllByRecursion Range cs → map written bs ++ l ∷ ls ≡ map written cs ++ m ∷ ms → (length bs ≡ length cs) × (v ≡ w)
  same_first [] [] r s e =
      let h : l ≡ m = cc in
      let o = reads_once m (Err v) (Err w) (subst (λ x. Reads x (Err v)) h u) u' in
      (refl, cc)
  same_first [] (c ∷ cs) r s e = absurd (not_written c l v s.0 u cc)
  same_first (b ∷ bs) [] r s e = absurd (not_written b m w r.0 u' cc)
  same_first (b ∷ bs) (c ∷ cs) r s e = let h = same_first bs cs r.1 s.1 cc in (ap suc h.0, h.1)

pub broken_once : (lines : List (List ℕ)) (n k : ℕ) (v w : Unreadable) → Broken lines n v → Broken lines k w → (n ≡ k) × (v ≡ w)
broken_once lines n k v w b c =
    let h = same_first b.line c.line v w b.unread c.unread b.behind c.behind b.before c.before b.ranges c.ranges (sym b.is ∙ c.is) in
    (b.number ∙ ap (λ i. i + 1) h.0 ∙ sym c.number, h.1)
