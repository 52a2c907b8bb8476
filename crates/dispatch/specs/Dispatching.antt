-- Orders enter queue 0 of a store one after another, and are served until it is empty: m is what the store means
-- before, n after.
use Rattle.std.specs.Prelude.{◌≡◌, ℕ, ◌<◌, ◌≤◌, Bool, true, List, [], ◌∷◌, length, take, is_ok, Ok, Err, Result}
use Rattle.stores.specs.declared.refusals.Refusal.{Refusal}
use Rattle.stores.specs.declared.refusals.Refusal.TheVariants.{QueueNumber, SameQueue, AtLimit, NoCell, NoStamp, NotQueued}
use Rattle.stores.specs.Meaning.{Meaning, WellFormed, list_of, limits_of, fresh}
use Rattle.stores.specs.Calls.{put_answer, put_after, with_list}
use Rattle.dispatch.specs.declared.Rejected.{Rejected}
use Rattle.dispatch.specs.declared.Failure.{Failure}
use Rattle.dispatch.specs.declared.Failure.TheVariants.{Refused, NoMemory}
use Rattle.dispatch.specs.Service.{elements_of}

module _ {T : Type 0} (le : T → T → Bool) where
  -- x was put into queue 0
  abbrev pub after_put : Meaning T → T → Meaning T
  after_put m x = record { state = put_after le m.state 0 x (put_answer m 0); fixed = m.fixed; held = m.held }

  -- each was put into queue 0, in this order
  abbrev pub after_puts : Meaning T → List T → Meaning T
  after_puts m [] = m
  after_puts m (x ∷ xs) = after_puts (after_put m x) xs

  -- no put of them is refused
  abbrev pub Accepted : Meaning T → List T → Type 0
  Accepted m [] = Unit {0}
  Accepted m (x ∷ xs) = (is_ok (put_answer m 0) ≡ true) × Accepted (after_put m x) xs

  -- all of xs stand in queue 0 beside those that stood there before
  pub record Admitted (m : Meaning T) (xs : List T) (n : Meaning T) : Type 0 where
    pub accepted : Accepted m xs
    pub after : n ≡ after_puts m xs
    pub formed : WellFormed le m → WellFormed le n

  -- accepted: all stand in the queue. Refused: those before the rejected one do, and its put was answered by the refusal
  abbrev pub Admits : Meaning T → List T → Result Unit Rejected → Meaning T → Type 0
  Admits m xs (Ok u) n = Admitted m xs n
  Admits m xs (Err e) n = (e.index < length xs) × Admitted m (take e.index xs) n × (Err e.refusal ≡ put_answer n 0)

  -- ys were taken from queue 0, which is empty now, and nothing else changed
  pub record Served (m : Meaning T) (ys : List T) (n : Meaning T) : Type 0 where
    pub taken : ys ≡ elements_of (list_of m.state 0)
    pub after : n.state ≡ with_list m.state 0 []
    pub fixed : n.fixed ≡ m.fixed
    pub held : n.held ≤ m.held
    pub formed : WellFormed le m → WellFormed le n

  -- xs were put into queue 0, and then ys were taken from it until it was empty
  pub record Dispatched (m : Meaning T) (xs ys : List T) (n : Meaning T) : Type 0 where
    pub accepted : Accepted m xs
    pub served : Served (after_puts m xs) ys n
    pub formed : WellFormed le m → WellFormed le n

  -- an order is rejected where its put is refused; for want of memory all wait, and none is taken
  abbrev pub Failed : Meaning T → List T → Failure → Meaning T → Type 0
  Failed m xs (Refused e) n = Admits m xs (Err e) n
  Failed m xs NoMemory n = Admitted m xs n

  -- nothing was put yet, and queue 0 has no limit
  pub record Unused (m : Meaning T) : Type 0 where
    pub formed : WellFormed le m
    pub empty : m.state ≡ fresh
    pub unlimited : limits_of m.fixed 0 ≡ []

-- cells and stamps for n orders
pub record Enough (cells stamps n : ℕ) : Type 0 where
  pub few_cells : n ≤ cells
  pub few_stamps : n ≤ stamps

-- after k orders there is no cell left, or else no stamp
abbrev pub Lacks : ℕ → ℕ → ℕ → Refusal → Type 0
Lacks cells stamps k NoCell = (k ≡ cells) × (k ≤ stamps)
Lacks cells stamps k NoStamp = (k ≡ stamps) × (k < cells)
Lacks cells stamps k QueueNumber = ⊥
Lacks cells stamps k SameQueue = ⊥
Lacks cells stamps k (AtLimit h) = ⊥
Lacks cells stamps k (NotQueued h) = ⊥

-- what keeps n orders from being served by an unused store
abbrev pub Hindered : ℕ → ℕ → ℕ → Failure → Type 0
Hindered cells stamps n (Refused e) = (e.index < n) × Lacks cells stamps e.index e.refusal
Hindered cells stamps n NoMemory = Enough cells stamps n
