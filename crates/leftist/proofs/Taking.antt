-- First and take of a leftist heap: the front entry is at the root, and its two subtrees are melded.
use Rattle.std.proofs.Common.{ℕ, ◌<◌, Bool, List, length, get_or, Some, Option, refl, ap, subst, arith}
use Rattle.elements.specs.declared.entries.Entry.{Entry}
use Rattle.elements.specs.Order.{precedes_by, stamp_of}
use Rattle.stores.specs.SortedLists.{merge, tally}
use Rattle.stores.proofs.Merging.{tally-merge}
use Rattle.cells.specs.Trees.{Tree, size, uses}
use Rattle.cells.specs.Binary.{listed}
use Rattle.cells.specs.Forms.{HeapAt, Meldable, Melded, FrontIn, FrontTaken}
use Rattle.cells.proofs.Trees.{Node, node_at}
use Rattle.cells.proofs.Taking.{front_root, taken_root}
use Rattle.leftist.specs.Leftist.{no_link, leftist}
use Rattle.leftist.specs.declared.links.Link.{Link}

module _ {T : Type 0} (le : T → T → Bool) {ls : List Link} {es : List (Entry T)} (t : Tree (Entry T)) (i : ℕ) (h : HeapAt (leftist le) ls es (Some i) t) where
  pub root : Node t i
  root = node_at t i h.stored_at.at

  pub front : FrontIn (leftist le) es t i
  front = front_root (leftist le) t i root.entry root.left root.right root.is (merge (precedes_by le) (listed (precedes_by le) root.left) (listed (precedes_by le) root.right)) refl h

  -- the two subtrees, as the cell i names them
  pub record Parts : Type 0 where
    pub within : i < length ls
    pub meldable : Meldable (leftist le) ls es (get_or ls i no_link).left (get_or ls i no_link).right root.left root.right
    pub taken : {ls' : List Link} {r : Option ℕ} → Melded (leftist le) ls es root.left root.right ls' r → FrontTaken (leftist le) ls es t ls' i r

  pub parts : Parts
  parts =
      let k = (subst (HeapAt (leftist le) ls es (Some i)) root.is h).stored_at.stored in
      record {
        within = k.linked.0;
        meldable = record {
          one = record { at = ap (λ (x : Link). x.left) k.linked.1; stored = record { linked = k.linked.2; held = k.held.2; valid = (k.valid.0.1, k.valid.1.2) } };
          two = record { at = ap (λ (x : Link). x.right) k.linked.1; stored = record { linked = k.linked.3; held = k.held.3; valid = (k.valid.0.2, k.valid.1.3) } };
          cells = λ j. omega (arith, h.cells j, ap (λ x. uses x j) root.is);
          stamps = λ j. omega (arith, h.stamps j, ap (λ x. tally stamp_of (listed (precedes_by le) x) j) root.is, tally-merge (precedes_by le) stamp_of (listed (precedes_by le) root.left) (listed (precedes_by le) root.right) j);
          few = omega (arith, h.few, ap size root.is);
        };
        taken = λ m. taken_root (leftist le) t i root.entry root.left root.right root.is (merge (precedes_by le) (listed (precedes_by le) root.left) (listed (precedes_by le) root.right)) refl h m;
      }
