-- One layer higher, a well-formed store is well formed.
use Rattle.std.specs.Prelude.{ℕ, ◌+◌, ◌≤◌, Bool, List}
use Rattle.std.specs.List.{AllByRecursion}
use Rattle.std.proofs.Common.{subst}
use Rattle.std.proofs.ByRecursion.{All-weaker}
use Rattle.std.proofs.Math.Nat.{le_trans, le-add_right}
use Rattle.stores.specs.Meaning.{Pair, Meaning, WellFormed, AtMost}
use Rattle.journal.specs.declared.logs.Log.{Log}
use Rattle.journal.specs.Raised.{raised, Over}

all_higher : (h : ℕ) (pss : List (List Pair)) → AllByRecursion (AtMost h) pss → AllByRecursion (AtMost (h + 1)) pss
all_higher h pss a = All-weaker _ _ (λ ps b. All-weaker _ _ (λ (p : Pair) (c : p.height ≤ h). le_trans c (le-add_right h 1)) ps b) pss a

pub formed_raised : {T : Type 0} {le : T → T → Bool} {Below : Type 0} {m : Meaning T} {l : Log} → Over le Below m l → WellFormed le (raised m)
formed_raised {T} {le} {Below} {m} o =
    let f = o.formed in
    record {
      queues = f.queues;
      sorted = f.sorted;
      stamps = f.stamps;
      issued = f.issued;
      stored = f.stored;
      idle = f.idle;
      limited = f.limited;
      heights = all_higher m.fixed.height m.fixed.pairs f.heights;
      sizes = f.sizes;
      low = subst (λ k. k ≤ 255) o.above o.low;
    }
