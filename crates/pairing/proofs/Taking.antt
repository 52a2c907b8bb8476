-- First and take of a pairing heap: the front entry is at the root, and its children become one tree.
use Rattle.std.proofs.Common.{◌≡◌, ℕ, ◌<◌, Bool, List, length, get_or, Some, Option, ap, ◌∙◌, subst, arith}
use Rattle.elements.specs.declared.entries.Entry.{Entry}
use Rattle.elements.specs.Order.{precedes_by, stamp_of}
use Rattle.stores.specs.SortedLists.{tally}
use Rattle.cells.specs.Trees.{Tree, leaf, node, size, uses}
use Rattle.cells.specs.Forms.{HeapAt, Built, FrontIn, FrontTaken}
use Rattle.cells.proofs.Trees.{Node, node_at}
use Rattle.cells.proofs.Taking.{front_root, taken_root}
use Rattle.forests.specs.Forests.{Any, listed}
use Rattle.forests.specs.Parts.{ForestAt}
use Rattle.forests.proofs.Listing.{list_lone}
use Rattle.pairing.specs.Pairing.{cells_of, no_link, pairing}
use Rattle.pairing.specs.declared.links.Link.{Link}

module _ {T : Type 0} (le : T → T → Bool) {ls : List Link} {es : List (Entry T)} (t : Tree (Entry T)) (i : ℕ) (h : HeapAt (pairing le) ls es (Some i) t) where
  pub root : Node t i
  root = node_at t i h.stored_at.at

  -- the root has no siblings
  lone : t ≡ node i root.entry root.left leaf
  lone = root.is ∙ ap (λ x. node i root.entry root.left x) (subst (HeapAt (pairing le) ls es (Some i)) root.is h).stored_at.stored.valid.0

  pub front : FrontIn (pairing le) es t i
  front = front_root (pairing le) t i root.entry root.left leaf lone (listed (precedes_by le) root.left) (list_lone (precedes_by le) i root.entry root.left) h

  -- its children, as the cell i names them
  pub record Parts : Type 0 where
    pub within : i < length ls
    pub forest : ForestAt (cells_of le) Any ls es (get_or ls i no_link).child root.left
    pub taken : {ls' : List Link} {r : Option ℕ} → Built (pairing le) ls es (listed (precedes_by le) root.left) (uses root.left) (size root.left) ls' r → FrontTaken (pairing le) ls es t ls' i r

  pub parts : Parts
  parts =
      let k = (subst (HeapAt (pairing le) ls es (Some i)) lone h).stored_at.stored in
      let list = list_lone (precedes_by le) i root.entry root.left in
      record {
        within = k.linked.0;
        forest = record {
          stored_at = record { at = ap (λ (x : Link). x.child) k.linked.1; stored = record { linked = k.linked.2; held = k.held.2; valid = (tt, k.valid.1.1) } };
          cells = λ j. omega (arith, h.cells j, ap (λ x. uses x j) lone);
          stamps = λ j. omega (arith, h.stamps j, ap (λ x. tally stamp_of (listed (precedes_by le) x) j) lone, ap (λ x. tally stamp_of x j) list);
          few = omega (arith, h.few, ap size lone);
        };
        taken = λ m. taken_root (pairing le) t i root.entry root.left leaf lone (listed (precedes_by le) root.left) list h (record { tree = m.tree; stored_at = m.stored_at; lists = m.lists; cells = λ j. omega (arith, m.cells j); counts = omega (arith, m.counts); others = λ j z. m.others j (omega (arith, z)) });
      }
