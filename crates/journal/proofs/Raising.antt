-- One layer higher: the calls do not look at the height.
use Rattle.std.proofs.Common.{◌≡◌, ℕ, ◌+◌, Bool, List, [], ◌∷◌, Option, Result, sym, refl, ap, ◌∙◌}
use Rattle.elements.specs.declared.entries.Entry.{Entry}
use Rattle.stores.specs.declared.refusals.Refusal.{Refusal}
use Rattle.stores.specs.Meaning.{Fixed, Meaning, WellFormed}
use Rattle.stores.specs.Promises.{Puts, Takes, Melds, Cancels}
use Rattle.journal.specs.declared.logs.Log.{Log}
use Rattle.journal.specs.Kept.{WellKept, noted}
use Rattle.journal.specs.declared.logs.Change.{Change}
use Rattle.journal.specs.Raised.{raised, raised_fixed, Over}
use Rattle.journal.specs.Formed.{formed_raised}

-- the changes do not touch the height
height_noted : (cs : List Change) (l : Log) → (noted l cs).height ≡ l.height
height_noted [] l = refl
height_noted (c ∷ cs) l = height_noted cs (noted l (c ∷ []))

-- the layer's call: m is what the store below means before it, n after
module _ {T : Type 0} {le : T → T → Bool} {B : Type 0} (m n : Meaning T) (l : Log) (o : Over le B m l) where
  -- the layer after a call that made the changes cs
  over_next : {C : Type 0} (w : Log) (cs : List Change) → C → WellFormed le n → n.fixed ≡ m.fixed → WellKept w → w ≡ noted l cs → Over le C n w
  over_next w cs c f e k is =
      let h : w.height ≡ l.height = ap (λ (x : Log). x.height) is ∙ height_noted cs l in
      record { below = c; formed = f; kept = k; above = h ∙ o.above ∙ ap (λ (x : Fixed). x.height + 1) (sym e); low = rw h o.low }

  formed_next : WellFormed le n → n.fixed ≡ m.fixed → WellFormed le (raised n)
  formed_next f e = formed_raised (over_next {C = Unit {0}} l [] tt f e o.kept refl)

  pub puts_raised : (q : ℕ) (x : T) (r : Result ℕ Refusal) → Puts le m q x r n → Puts le (raised m) q x r (raised n)
  puts_raised q x r e = record { answer = e.answer; after = e.after; fixed = ap raised_fixed e.fixed; held = e.held; formed = formed_next e.formed e.fixed }

  pub takes_raised : (q : ℕ) (r : Result (Option (Entry T)) Refusal) → Takes le m q r n → Takes le (raised m) q r (raised n)
  takes_raised q r e = record { answer = e.answer; after = e.after; fixed = ap raised_fixed e.fixed; held = e.held; formed = formed_next e.formed e.fixed }

  pub melds_raised : (a b : ℕ) (r : Result ℕ Refusal) → Melds le m a b r n → Melds le (raised m) a b r (raised n)
  melds_raised a b r e = record { answer = e.answer; after = e.after; fixed = ap raised_fixed e.fixed; held = e.held; formed = formed_next e.formed e.fixed }

  pub cancels_raised : (k : ℕ) (r : Result ℕ Refusal) → Cancels le m k r n → Cancels le (raised m) k r (raised n)
  cancels_raised k r e = record { answer = e.answer; after = e.after; fixed = ap raised_fixed e.fixed; held = e.held; formed = formed_next e.formed e.fixed }
