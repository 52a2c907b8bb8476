-- One more limit on each queue leaves a well-formed store well formed.
use Rattle.std.specs.Prelude.{◌≡◌, ℕ, ◌+◌, ◌≤◌, Bool, List, [], ◌∷◌, length, refl}
use Rattle.std.specs.List.{AllByRecursion}
use Rattle.std.proofs.Common.{suc, ap, ◌∙◌, subst}
use Rattle.std.proofs.ByRecursion.{All-weaker}
use Rattle.std.proofs.Math.Nat.{le_refl, le_trans, le-add_right}
use Rattle.stores.specs.Meaning.{Pair, Meaning, WellFormed, AtMost}
use Rattle.quota.specs.Limiting.{added, with_limits, Over}

pub length_added : (ls : List ℕ) (h : ℕ) (pss : List (List Pair)) → length (added ls h pss) ≡ length pss
unfolding added
length_added [] h pss = refl
length_added (l ∷ ls) h [] = refl
length_added (l ∷ ls) h (ps ∷ pss) = ap suc (length_added ls h pss)

higher : (h : ℕ) (ps : List Pair) → AtMost h ps → AtMost (h + 1) ps
higher h ps a = All-weaker _ _ (λ (p : Pair) (b : p.height ≤ h). le_trans b (le-add_right h 1)) ps a

heights_added : (ls : List ℕ) (h : ℕ) (pss : List (List Pair)) → AllByRecursion (AtMost h) pss → AllByRecursion (AtMost (h + 1)) (added ls (h + 1) pss)
unfolding added
heights_added [] h [] a = tt
heights_added [] h (ps ∷ pss) a = (higher h ps a.0, heights_added [] h pss a.1)
heights_added (l ∷ ls) h [] a = tt
heights_added (l ∷ ls) h (ps ∷ pss) a = ((le_refl (h + 1), higher h ps a.0), heights_added ls h pss a.1)

pub formed_with_limits : {T : Type 0} {le : T → T → Bool} {Below : Type 0} {m : Meaning T} {ls : List ℕ} {h : ℕ} → Over le Below m ls h → WellFormed le (with_limits ls m)
formed_with_limits {T} {le} {Below} {m} {ls} {h} o =
    let f = o.formed in
    record {
      queues = f.queues;
      sorted = f.sorted;
      stamps = f.stamps;
      issued = f.issued;
      stored = f.stored;
      idle = f.idle;
      limited = length_added ls (m.fixed.height + 1) m.fixed.pairs ∙ f.limited;
      heights = heights_added ls m.fixed.height m.fixed.pairs f.heights;
      sizes = f.sizes;
      low = subst (λ k. k ≤ 255) o.above o.low;
    }
