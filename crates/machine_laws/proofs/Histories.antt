-- One record more, and what it tells of each order.
use Rattle.std.proofs.Common.{◌≡◌, ℕ, ◌+◌, Bool, true, false, cond, ◌||◌, eqb, List, [], ◌∷◌, ◌++◌, Some, None, sum_by, sym, refl, ap, ◌∙◌, subst, add-zero, zero-add, arith}
use Rattle.std.proofs.lemmas.List.Sums.{sum_by-cons, sum_by_push}
use Rattle.elements.specs.declared.lines.LineEntry.{LineEntry}
use Rattle.elements.specs.Elements.{line_le}
use Rattle.elements.specs.Order.{precedes_by}
use Rattle.machine.specs.declared.records.RecordKind.{RecordKind}
use Rattle.machine.specs.declared.records.RecordKind.TheVariants.{Start, Wait, Away, Withdrawn, Missed, Finish, Done, Close, Kept}
use Rattle.machine.specs.declared.records.Record.{Record}
use Rattle.machine_laws.specs.History.{Place, place_after, waits_in, place_from, place, finish_of, finishes}

abbrev pub waits : List Record → ℕ
waits rs = sum_by (λ (r : Record). waits_in r.kind) rs

place_push_from : (i n : ℕ) (p : Place) (rs : List Record) (x : Record) → place_from i n p (rs ++ (x ∷ [])) ≡ place_after i (n + waits rs) x.kind (place_from i n p rs)
place_push_from i n p [] x = ap (λ k. place_after i k x.kind p) (sym (add-zero n))
place_push_from i n p (r ∷ rs) x =
    let e : (n + waits_in r.kind) + waits rs ≡ n + waits (r ∷ rs) = omega (arith, sum_by-cons (λ (y : Record). waits_in y.kind) r rs) in
    place_push_from i (n + waits_in r.kind) (place_after i n r.kind p) rs x ∙ ap (λ k. place_after i k x.kind (place_from i n p (r ∷ rs))) e

pub place_push : (i : ℕ) (rs : List Record) (x : Record) → place i (rs ++ (x ∷ [])) ≡ place_after i (waits rs) x.kind (place i rs)
place_push i rs x = place_push_from i 0 None rs x ∙ ap (λ k. place_after i k x.kind (place i rs)) (zero-add (waits rs))

pub waits_push : (rs : List Record) (x : Record) → waits (rs ++ (x ∷ [])) ≡ waits rs + waits_in x.kind
waits_push rs x = sum_by_push (λ (r : Record). waits_in r.kind) rs x

-- whether order i started and has not finished since
abbrev pub unfinished_after : ℕ → RecordKind → Bool → Bool
unfinished_after i (Start j k) b = cond (eqb j i) true b
unfinished_after i (Wait j k) b = b
unfinished_after i (Away j k) b = b
unfinished_after i (Withdrawn j) b = b
unfinished_after i (Missed j) b = b
unfinished_after i (Finish j k) b = cond (eqb j i) false b
unfinished_after i (Done j) b = b
unfinished_after i (Close k j x) b = b
unfinished_after i (Kept k j) b = b

abbrev pub unfinished_from : ℕ → Bool → List Record → Bool
unfinished_from i b [] = b
unfinished_from i b (r ∷ rs) = unfinished_from i (unfinished_after i r.kind b) rs

abbrev pub unfinished : ℕ → List Record → Bool
unfinished i rs = unfinished_from i false rs

unfinished_push_from : (i : ℕ) (b : Bool) (rs : List Record) (x : Record) → unfinished_from i b (rs ++ (x ∷ [])) ≡ unfinished_after i x.kind (unfinished_from i b rs)
unfinished_push_from i b [] x = refl
unfinished_push_from i b (r ∷ rs) x = unfinished_push_from i (unfinished_after i r.kind b) rs x

pub unfinished_push : (i : ℕ) (rs : List Record) (x : Record) → unfinished i (rs ++ (x ∷ [])) ≡ unfinished_after i x.kind (unfinished i rs)
unfinished_push i rs x = unfinished_push_from i false rs x

-- what has to hold where a record is told: of a start, that nobody precedes the order in its line, and that it finished
-- whatever it started before. `who` is each order as it stands in a line
module _ (who : ℕ → LineEntry) where
  abbrev pub Fair : (ℕ → Place) → ℕ → ℕ → Type 0
  Fair p i k = (s j t : ℕ) → p i ≡ Some (k, s) → p j ≡ Some (k, t) → precedes_by line_le (record { element = who j; stamp = t }) (record { element = who i; stamp = s }) ≡ false

  abbrev pub Allowed : (ℕ → Place) → (ℕ → Bool) → RecordKind → Type 0
  Allowed p u (Start i k) = Fair p i k × (u i ≡ false)
  Allowed p u (Wait j k) = Unit {0}
  Allowed p u (Away j k) = Unit {0}
  Allowed p u (Withdrawn j) = Unit {0}
  Allowed p u (Missed j) = Unit {0}
  Allowed p u (Finish j k) = Unit {0}
  Allowed p u (Done j) = Unit {0}
  Allowed p u (Close k j x) = Unit {0}
  Allowed p u (Kept k j) = Unit {0}

  abbrev pub GoodFrom : ℕ → (ℕ → Place) → (ℕ → Bool) → List Record → Type 0
  GoodFrom n p u [] = Unit {0}
  GoodFrom n p u (r ∷ rs) = Allowed p u r.kind × GoodFrom (n + waits_in r.kind) (λ i. place_after i n r.kind (p i)) (λ i. unfinished_after i r.kind (u i)) rs

  abbrev pub Good : List Record → Type 0
  Good rs = GoodFrom 0 (λ i. None) (λ i. false) rs

  good_push_from : (n : ℕ) (p : ℕ → Place) (u : ℕ → Bool) (rs : List Record) (x : Record) → GoodFrom n p u rs → Allowed (λ i. place_from i n (p i) rs) (λ i. unfinished_from i (u i) rs) x.kind → GoodFrom n p u (rs ++ (x ∷ []))
  good_push_from n p u [] x h a = (a, tt)
  good_push_from n p u (r ∷ rs) x h a = (h.0, good_push_from (n + waits_in r.kind) (λ i. place_after i n r.kind (p i)) (λ i. unfinished_after i r.kind (u i)) rs x h.1 a)

  pub good_push : (rs : List Record) (x : Record) → Good rs → Allowed (λ i. place i rs) (λ i. unfinished i rs) x.kind → Good (rs ++ (x ∷ []))
  good_push rs x h a = good_push_from 0 (λ i. None) (λ i. false) rs x h a

  good_at_from : (n : ℕ) (p : ℕ → Place) (u : ℕ → Bool) (xs : List Record) (r : Record) (ys : List Record) → GoodFrom n p u (xs ++ (r ∷ ys)) → Allowed (λ i. place_from i n (p i) xs) (λ i. unfinished_from i (u i) xs) r.kind
  good_at_from n p u [] r ys h = h.0
  good_at_from n p u (x ∷ xs) r ys h = good_at_from (n + waits_in x.kind) (λ i. place_after i n x.kind (p i)) (λ i. unfinished_after i x.kind (u i)) xs r ys h.1

  pub good_at : (xs : List Record) (r : Record) (ys : List Record) → Good (xs ++ (r ∷ ys)) → Allowed (λ i. place i xs) (λ i. unfinished i xs) r.kind
  good_at xs r ys h = good_at_from 0 (λ i. None) (λ i. false) xs r ys h

-- who started, and is finished later, finished in between
pub finished_on : (i : ℕ) (ys : List Record) → unfinished_from i true ys ≡ false → finishes i ys ≡ true
finished_on i [] h = let z : ◌≡◌ {A = ℕ} 0 1 = cc in absurd (omega arith)
finished_on i (r ∷ ys) h = go r.kind h (finished_on i ys)
  where
    go : (x : RecordKind) → unfinished_from i (unfinished_after i x true) ys ≡ false → (unfinished_from i true ys ≡ false → finishes i ys ≡ true) → (finish_of i x || finishes i ys) ≡ true
    go (Start j k) e ih = ih (subst (λ b. unfinished_from i b ys ≡ false) (both (eqb j i)) e)
      where
        both : (b : Bool) → cond b true true ≡ true
        both true = refl
        both false = refl
    go (Wait j k) e ih = ih e
    go (Away j k) e ih = ih e
    go (Withdrawn j) e ih = ih e
    go (Missed j) e ih = ih e
    go (Finish j k) e ih = by (eqb j i) e
      where
        by : (b : Bool) → unfinished_from i (cond b false true) ys ≡ false → (b || finishes i ys) ≡ true
        by true q = refl
        by false q = ih q
    go (Done j) e ih = ih e
    go (Close k j x) e ih = ih e
    go (Kept k j) e ih = ih e

pub unfinished_append : (i : ℕ) (b : Bool) (xs ys : List Record) → unfinished_from i b (xs ++ ys) ≡ unfinished_from i (unfinished_from i b xs) ys
unfinished_append i b [] ys = refl
unfinished_append i b (x ∷ xs) ys = unfinished_append i (unfinished_after i x.kind b) xs ys
