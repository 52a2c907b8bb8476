-- The meld of two pairing heaps is the join of their trees.
use Rattle.std.proofs.Common.{◌≡◌, ℕ, Bool, List, Some, None, Option, refl, ◌∙◌, arith}
use Rattle.elements.specs.declared.entries.Entry.{Entry}
use Rattle.elements.specs.Order.{precedes_by}
use Rattle.stores.specs.SortedLists.{merge}
use Rattle.stores.proofs.Merging.{merge-nil}
use Rattle.cells.specs.Trees.{Tree, leaf, node, root}
use Rattle.cells.specs.Forms.{Meldable, Melded}
use Rattle.forests.specs.Forests.{Before, listed}
use Rattle.forests.specs.Parts.{Joinable, Joined}
use Rattle.forests.proofs.Parting.{rooted_lone, reshaped}
use Rattle.pairing.specs.Pairing.{Alone, cells_of, pairing}
use Rattle.pairing.specs.declared.links.Link.{Link}
use Rattle.pairing.specs.Lawful.{laid}

-- a heap with a root is one tree
pub lone : {A : Type 0} (t : Tree A) (i : ℕ) → Some i ≡ root t → Alone t → Before leaf t
lone leaf i at h = let z : ◌≡◌ {A = ℕ} 0 1 = cc in absurd (omega arith)
lone (node j e c s) i at h = h

pub alone : {A : Type 0} (t : Tree A) → Before leaf t → Alone t
alone leaf h = tt
alone (node j e c s) h = h

module _ {T : Type 0} (le : T → T → Bool) {ls : List Link} {es : List (Entry T)} where
  pub joinable : {i j : ℕ} {s t : Tree (Entry T)} → Meldable (pairing le) ls es (Some i) (Some j) s t → Joinable (cells_of le) ls es i j None s t leaf
  joinable {i} {j} {s} {t} p = record {
    one = rooted_lone (cells_of le) (laid le) s (lone s i p.one.at p.one.stored.valid.0) p.one;
    two = rooted_lone (cells_of le) (laid le) t (lone t j p.two.at p.two.stored.valid.0) p.two;
    behind = record { at = refl; stored = record { linked = tt; held = tt; valid = (tt, tt) } };
    cells = λ k. omega (arith, p.cells k);
    stamps = λ k. omega (arith, p.stamps k);
    few = omega (arith, p.few);
  }

  pub melded : {ls' : List Link} {r : Option ℕ} (s t : Tree (Entry T)) → Joined (cells_of le) (Before leaf) ls es s t leaf ls' r → Melded (pairing le) ls es s t ls' r
  melded s t m = record {
    tree = m.tree;
    stored_at = reshaped (cells_of le) (alone m.tree) m.stored_at;
    lists = m.lists ∙ merge-nil (precedes_by le) (merge (precedes_by le) (listed (precedes_by le) s) (listed (precedes_by le) t));
    cells = λ k. omega (arith, m.cells k);
    counts = omega (arith, m.counts);
    others = λ k z. m.others k (omega (arith, z));
  }
