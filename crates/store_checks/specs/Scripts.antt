-- The script whose answers depend on the store.
use Rattle.std.specs.Prelude.{ℕ, List, [], ◌∷◌}
use Rattle.store_checks.specs.declared.calls.Call.{Call}
use Rattle.store_checks.specs.declared.calls.Call.TheVariants.{Put, First, Count, Cancel}
use Rattle.store_checks.specs.declared.calls.Answer.{Answer}
use Rattle.store_checks.specs.declared.calls.Answer.TheVariants.{Number, Order, Refused}

-- three entries of queue 5: the front is cancelled, one behind it, the same again, and one that was never put
abbrev pub cancelling : ℕ → List (Call × Answer)
cancelling h =
    (Put 5 7 1, Number 0)
    ∷ (Put 5 8 2, Number 1)
    ∷ (Put 5 9 3, Number 2)
    ∷ (Cancel 0, Number 5)
    ∷ (First 5, Order 8)
    ∷ (Cancel 2, Number 5)
    ∷ (Cancel 2, Refused 14 h)
    ∷ (Cancel 3, Refused 14 h)
    ∷ (Count 5, Number 1)
    ∷ []
