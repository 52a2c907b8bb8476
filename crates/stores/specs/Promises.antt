-- What each call that may change a store promises: m is what the store means before it, n after it, r the answer.
use Rattle.std.specs.Prelude.{◌≡◌, ℕ, ◌+◌, ◌≤◌, Bool, Ok, Err, Option, Result}
use Rattle.elements.specs.declared.entries.Entry.{Entry}
use Rattle.stores.specs.declared.refusals.Refusal.{Refusal}
use Rattle.stores.specs.Meaning.{Meaning, WellFormed, bare_fixed}
use Rattle.stores.specs.Calls.{put_answer, put_after, first_answer, take_after, meld_answer, meld_after, cancel_answer, cancel_after}

module _ {T : Type 0} (le : T → T → Bool) (m : Meaning T) where
  pub record Puts (q : ℕ) (x : T) (r : Result ℕ Refusal) (n : Meaning T) : Type 0 where
    pub answer : r ≡ put_answer m q
    pub after : n.state ≡ put_after le m.state q x r
    pub fixed : n.fixed ≡ m.fixed
    pub held : n.held ≡ m.held
    pub formed : WellFormed le n

  pub record Takes (q : ℕ) (r : Result (Option (Entry T)) Refusal) (n : Meaning T) : Type 0 where
    pub answer : r ≡ first_answer m.state q
    pub after : n.state ≡ take_after m.state q r
    pub fixed : n.fixed ≡ m.fixed
    pub held : n.held ≤ m.held
    pub formed : WellFormed le n

  pub record Melds (a b : ℕ) (r : Result ℕ Refusal) (n : Meaning T) : Type 0 where
    pub answer : r ≡ meld_answer m.state a b
    pub after : n.state ≡ meld_after le m.state a b r
    pub fixed : n.fixed ≡ m.fixed
    pub held : n.held ≤ m.held
    pub formed : WellFormed le n

  pub record Cancels (k : ℕ) (r : Result ℕ Refusal) (n : Meaning T) : Type 0 where
    pub answer : r ≡ cancel_answer m k
    pub after : n.state ≡ cancel_after m.state k r
    pub fixed : n.fixed ≡ m.fixed
    pub held : n.held ≤ m.held + 1
    pub formed : WellFormed le n

-- a refused call leaves the whole value as it was
abbrev pub Unchanged : {A S : Type 0} → Result A Refusal → S → S → Type 0
Unchanged (Ok a) x y = Unit {0}
Unchanged (Err f) x y = y ≡ x

-- no limits, nothing held, height 0
pub record Bare {T : Type 0} (m : Meaning T) : Type 0 where
  pub fixed : m.fixed ≡ bare_fixed m.fixed.cells m.fixed.stamps
  pub held : m.held ≡ 0
