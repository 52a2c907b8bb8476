-- What a `?` hands on: the same refusal as the definitions have.
use Rattle.std.proofs.Common.{◌≡◌, ℕ, ◌≤◌, Err, Result, Some, None, Option, refl, ap, ◌∙◌, arith}
use Rattle.std.specs.Option.{ok_or}
use Rattle.std.specs.Result.{IsErrAnd}
use Rattle.std.proofs.lemmas.Result.{err_from_is_err_and}
use Rattle.stores.specs.declared.refusals.Refusal.{Refusal}
use Rattle.stores.specs.declared.refusals.Refusal.TheVariants.{QueueNumber}
use Rattle.cells.specs.Queues.{kept_queue}
use Rattle.cells.specs.declared.heads.Heads.{Heads}
use Rattle.cells.proofs.Counting.{kept_far}

-- r is what `?` hands on of the refusal f
module _ {A : Type 0} (r : Result A Refusal) (f : Refusal) (handed : IsErrAnd r (λ y. y ≡ f)) where
  refused : (e : Refusal) → f ≡ e → r ≡ Err e
  refused e is = let x = err_from_is_err_and r handed in x.1 ∙ ap Err (x.2 ∙ is)

  pub queue_refused : (h : Heads) (q : ℕ) → Err f ≡ kept_queue h q → (32 ≤ q) × (r ≡ Err QueueNumber)
  queue_refused h q kept = let k = kept_far h q f kept in (k.0, refused QueueNumber k.1)

  -- of the refusal e where there is nothing
  pub nothing_refused : {B : Type 0} (o : Option B) (e : Refusal) → Err f ≡ ok_or o e → (o ≡ None) × (r ≡ Err e)
  nothing_refused None e is = (refl, refused e cc)
  nothing_refused (Some b) e is = let z : ◌≡◌ {A = ℕ} 0 1 = cc in absurd (omega arith)
