-- What the calls answer, a way at a time, and what a refused call promises.
use Rattle.std.proofs.Common.{◌≡◌, ℕ, zero, suc, ◌+◌, ◌<◌, ◌≤◌, Bool, true, false, cond, ◌||◌, eqb, leb, List, [], get_or, replicate, None, Ok, Err, Option, Result, sym, refl, ap, ◌∙◌, arith}
use Rattle.std.specs.List.{AllByRecursion}
use Rattle.std.proofs.lemmas.Bool.{lt-leb, le-leb, eq-eqb, ne_eqb}
use Rattle.elements.specs.declared.entries.Entry.{Entry}
use Rattle.stores.specs.declared.refusals.Refusal.{Refusal}
use Rattle.stores.specs.declared.refusals.Refusal.TheVariants.{QueueNumber, SameQueue, AtLimit, NoCell, NoStamp}
use Rattle.stores.specs.Meaning.{Pair, State, Meaning, WellFormed, AtMost, list_of, count_of, live, limits_of, reached, reached_height, bare_fixed}
use Rattle.stores.specs.Calls.{put_answer, first_answer, meld_answer, count_answer, cancel_answer, front}
use Rattle.stores.specs.Promises.{Puts, Takes, Melds, Cancels, Unchanged}

none_at : (n q : ℕ) → get_or {A = List Pair} (replicate n []) q [] ≡ []
none_at zero q = refl
none_at (suc n) zero = refl
none_at (suc n) (suc q) = none_at n q

all_none : (h n : ℕ) → AllByRecursion (AtMost h) (replicate n [])
all_none h zero = tt
all_none h (suc n) = (tt, all_none h n)

-- a store with no limits has none above any height, and none is ever reached
pub no_heights : (h : ℕ) → AllByRecursion (AtMost h) (replicate 32 [])
no_heights h = all_none h 32

pub unlimited : (c s q n : ℕ) → reached (limits_of (bare_fixed c s) q) n ≡ false
unlimited c s q n = ap (λ ps. reached ps n) (none_at 32 q)

module _ {T : Type 0} (s : State T) (q : ℕ) where
  abbrev first_by : Bool → Result (Option (Entry T)) Refusal
  first_by b = cond b (Err QueueNumber) (Ok (front (list_of s q)))

  pub first_refused : 32 ≤ q → Err QueueNumber ≡ first_answer s q
  first_refused h = sym (ap first_by (le-leb 32 q h))

  pub first_told : (o : Option (Entry T)) → q < 32 → o ≡ front (list_of s q) → Ok o ≡ first_answer s q
  first_told o h e = ap Ok e ∙ sym (ap first_by (lt-leb 32 q h))

  abbrev count_by : Bool → Result ℕ Refusal
  count_by b = cond b (Err QueueNumber) (Ok (count_of s q))

  pub count_refused : 32 ≤ q → Err QueueNumber ≡ count_answer s q
  count_refused h = sym (ap count_by (le-leb 32 q h))

  pub count_told : (n : ℕ) → q < 32 → n ≡ count_of s q → Ok n ≡ count_answer s q
  count_told n h e = ap Ok e ∙ sym (ap count_by (lt-leb 32 q h))

module _ {T : Type 0} (s : State T) (a b : ℕ) where
  abbrev meld_by : Bool → Bool → Bool → Result ℕ Refusal
  meld_by x y z = cond (x || y) (Err QueueNumber) (cond z (Err SameQueue) (Ok (count_of s b)))

  pub meld_refused_into : 32 ≤ a → Err QueueNumber ≡ meld_answer s a b
  meld_refused_into h = sym (λ j. meld_by (le-leb 32 a h j) (leb 32 b) (eqb a b))

  pub meld_refused_from : a < 32 → 32 ≤ b → Err QueueNumber ≡ meld_answer s a b
  meld_refused_from h k = sym (λ j. meld_by (lt-leb 32 a h j) (le-leb 32 b k j) (eqb a b))

  pub meld_refused_same : a < 32 → b < 32 → a ≡ b → Err SameQueue ≡ meld_answer s a b
  meld_refused_same h k e = sym (λ j. meld_by (lt-leb 32 a h j) (lt-leb 32 b k j) (eq-eqb a b e j))

  pub meld_told : (n : ℕ) → a < 32 → b < 32 → (a ≡ b → ⊥) → n ≡ count_of s b → Ok n ≡ meld_answer s a b
  meld_told n h k ne e = ap Ok e ∙ sym (λ j. meld_by (lt-leb 32 a h j) (lt-leb 32 b k j) (ne_eqb a b ne j))

module _ {T : Type 0} (m : Meaning T) (q : ℕ) where
  abbrev put_by : Bool → Bool → Bool → Bool → Result ℕ Refusal
  put_by a b c d =
      cond a (Err QueueNumber)
      (cond b (Err (AtLimit (reached_height (limits_of m.fixed q) (count_of m.state q))))
      (cond c (Err NoCell) (cond d (Err NoStamp) (Ok m.state.next))))

  put_tests : (a b c d : Bool) → leb 32 q ≡ a → reached (limits_of m.fixed q) (count_of m.state q) ≡ b → eqb (live m.state + m.held) m.fixed.cells ≡ c → eqb m.state.next m.fixed.stamps ≡ d → put_by a b c d ≡ put_answer m q
  put_tests a b c d e f g h = sym (λ j. put_by (e j) (f j) (g j) (h j))

  pub put_refused_queue : 32 ≤ q → Err QueueNumber ≡ put_answer m q
  put_refused_queue h = put_tests true _ _ _ (le-leb 32 q h) refl refl refl

  -- below the limits
  module _ (near : q < 32) (room : reached (limits_of m.fixed q) (count_of m.state q) ≡ false) where
    pub put_refused_cell : live m.state + m.held ≡ m.fixed.cells → Err NoCell ≡ put_answer m q
    put_refused_cell e = put_tests false false true _ (lt-leb 32 q near) room (eq-eqb _ _ e) refl

    module _ (cell : live m.state + m.held ≡ m.fixed.cells → ⊥) where
      pub put_refused_stamp : m.state.next ≡ m.fixed.stamps → Err NoStamp ≡ put_answer m q
      put_refused_stamp e = put_tests false false false true (lt-leb 32 q near) room (ne_eqb _ _ cell) (eq-eqb _ _ e)

      pub put_told : (n : ℕ) → (m.state.next ≡ m.fixed.stamps → ⊥) → n ≡ m.state.next → Ok n ≡ put_answer m q
      put_told n stamp e = ap Ok e ∙ put_tests false false false false (lt-leb 32 q near) room (ne_eqb _ _ cell) (ne_eqb _ _ stamp)

-- a refused call, and a take from an empty queue, leave the meaning as it was
module _ {T : Type 0} {le : T → T → Bool} {m : Meaning T} (formed : WellFormed le m) where
  pub puts_refused : (q : ℕ) (x : T) (f : Refusal) → Err f ≡ put_answer m q → Puts le m q x (Err f) m
  puts_refused q x f e = record { answer = e; after = refl; fixed = refl; held = refl; formed = formed }

  pub takes_refused : (q : ℕ) (f : Refusal) → Err f ≡ first_answer m.state q → Takes le m q (Err f) m
  takes_refused q f e = record { answer = e; after = refl; fixed = refl; held = omega arith; formed = formed }

  pub takes_none : (q : ℕ) → Ok None ≡ first_answer m.state q → Takes le m q (Ok None) m
  takes_none q e = record { answer = e; after = refl; fixed = refl; held = omega arith; formed = formed }

  pub melds_refused : (a b : ℕ) (f : Refusal) → Err f ≡ meld_answer m.state a b → Melds le m a b (Err f) m
  melds_refused a b f e = record { answer = e; after = refl; fixed = refl; held = omega arith; formed = formed }

  pub cancels_refused : (k : ℕ) (f : Refusal) → Err f ≡ cancel_answer m k → Cancels le m k (Err f) m
  cancels_refused k f e = record { answer = e; after = refl; fixed = refl; held = omega arith; formed = formed }

-- what a refused call left as it was, it left so in all that is made of it
pub unchanged_over : {A X Y : Type 0} (f : X → Y) (r : Result A Refusal) (x y : X) → Unchanged r x y → Unchanged r (f x) (f y)
unchanged_over f (Ok a) x y h = tt
unchanged_over f (Err e) x y h = ap f h
