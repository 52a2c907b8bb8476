-- Count, for any form of heap: the kept number is the length of the queue's list.
use Rattle.std.proofs.Common.{◌≡◌, ℕ, ◌<◌, ◌≤◌, Bool, true, false, cond, leb, get_or, List, Ok, Err, refl, ap, ◌∙◌, arith}
use Rattle.std.proofs.lemmas.Bool.Decides.{nat_tests}
use Rattle.elements.specs.declared.entries.Entry.{Entry}
use Rattle.stores.specs.declared.refusals.Refusal.{Refusal}
use Rattle.stores.specs.declared.refusals.Refusal.TheVariants.{QueueNumber}
use Rattle.stores.specs.Calls.{count_answer}
use Rattle.stores.proofs.Answering.{count_refused, count_told}
use Rattle.cells.specs.Forms.{Form}
use Rattle.cells.specs.Lawful.{Lawful}
use Rattle.cells.specs.Queues.{Sound, no_queue, state_of, kept_queue}
use Rattle.cells.specs.declared.heads.Queue.{Queue}
use Rattle.cells.specs.declared.heads.Heads.{Heads}
use Rattle.cells.proofs.Soundness.{counted}

module _ (h : Heads) (q : ℕ) where
  near_by : (x : Queue) (b : Bool) → leb 32 q ≡ b → Ok x ≡ cond b (Err QueueNumber) (Ok (get_or h.queues q no_queue)) → (q < 32) × (x ≡ get_or h.queues q no_queue)
  near_by x true t e = let z : ◌≡◌ {A = ℕ} 0 1 = cc in absurd (omega arith)
  near_by x false t e = (grind (arith, nat_tests, t), cc)

  far_by : (f : Refusal) (b : Bool) → leb 32 q ≡ b → Err f ≡ cond b (Err QueueNumber) (Ok (get_or h.queues q no_queue)) → (32 ≤ q) × (f ≡ QueueNumber)
  far_by f true t e = (grind (arith, nat_tests, t), cc)
  far_by f false t e = let z : ◌≡◌ {A = ℕ} 0 1 = cc in absurd (omega arith)

  -- what is kept of a queue, and where there is none
  pub kept_near : (x : Queue) → Ok x ≡ kept_queue h q → (q < 32) × (x ≡ get_or h.queues q no_queue)
  kept_near x e = near_by x (leb 32 q) refl e

  pub kept_far : (f : Refusal) → Err f ≡ kept_queue h q → (32 ≤ q) × (f ≡ QueueNumber)
  kept_far f e = far_by f (leb 32 q) refl e

module _ {T K : Type 0} {le : T → T → Bool} (F : Form le K) (lawful : Lawful F) {h : Heads} {ls : List K} {es : List (Entry T)} (s : Sound F h ls es) (q : ℕ) where
  pub count_far : (f : Refusal) → Err f ≡ kept_queue h q → Err f ≡ count_answer (state_of F h ls es) q
  count_far f e = let k = kept_far h q f e in ap Err k.1 ∙ count_refused (state_of F h ls es) q k.0

  pub count_near : (x : Queue) → Ok x ≡ kept_queue h q → Ok x.count ≡ count_answer (state_of F h ls es) q
  count_near x e = let k = kept_near h q x e in count_told (state_of F h ls es) q x.count k.0 (ap (λ (y : Queue). y.count) k.1 ∙ counted F lawful s q k.0)
