-- A turn over the children of a root, from the first on.
use Rattle.std.proofs.Common.{◌≡◌, ℕ, ◌+◌, ◌<◌, Bool, List, length, get_or, set, Some, None, Option, sym, refl, ap, ◌∙◌, subst, arith}
use Rattle.elements.specs.declared.entries.Entry.{Entry}
use Rattle.elements.specs.Order.{Strict, precedes_by, stamp_of}
use Rattle.cells.specs.Trees.{Tree, leaf, node}
use Rattle.cells.specs.Forms.{StoredAt, Built}
use Rattle.cells.proofs.Trees.{Node}
use Rattle.forests.specs.Forests.{shaped}
use Rattle.forests.specs.Parts.{Apart, Parted}
use Rattle.forests.proofs.Parting.{built_shaped, part_end, first_node, first_apart, first_back, moved_first}
use Rattle.binomial.specs.Binomial.{trees, Children, Rising, cells_of, no_link, before_next}
use Rattle.binomial.specs.declared.links.Link.{Link}
use Rattle.binomial.specs.Lawful.{laid}
use Rattle.binomial.proofs.Carrying.{lower}

-- how many children are left
abbrev pub left : List Link → Option ℕ → ℕ
left ls None = 0
left ls (Some i) = (get_or ls i no_link).degree + 1

module _ {T : Type 0} (le : T → T → Bool) where
  left_of : {ls : List Link} {es : List (Entry T)} (k : ℕ) (a : Option ℕ) (t : Tree (Entry T)) → StoredAt (shaped (cells_of le) (Children k)) ls es a t → left ls a ≡ k
  left_of {ls} k a leaf p = ap (left ls) p.at ∙ p.stored.valid.0.1
  left_of {ls} k a (node i e c s) p = ap (left ls) p.at ∙ omega (arith, ap (λ (x : Link). x.degree) p.stored.linked.1, p.stored.valid.0.0.0, p.stored.valid.0.1)

  module _ (law : Strict (precedes_by le) (stamp_of {T = T})) {ls₀ ls : List Link} {es list : List (Entry T)} {own : ℕ → ℕ} {count : ℕ} {a b : Option ℕ} (k : ℕ) (p : Parted (cells_of le) (Children k) (Rising k) ls₀ es list own count ls a b) where
    -- all are turned over
    pub turned_all : a ≡ None → Built (shaped (cells_of le) (Rising 0)) ls₀ es list own count ls b
    turned_all none = built_shaped (cells_of le) {Q = Rising 0} (λ t h. lower t (omega arith) h) (part_end (cells_of le) (laid le) law none p)

    module _ {i : ℕ} (at : a ≡ Some i) where
      abbrev n : Node p.first i
      n = first_node (cells_of le) (laid le) law p at

      abbrev here : Apart (cells_of le) (Children k) (Rising k) ls es (Some i) b (node i n.entry n.left n.right) p.second
      here = first_apart (cells_of le) (laid le) law p at

      pub turn_within : i < length ls
      turn_within = here.one.stored.linked.0

      pub record Turned (ls₁ : List Link) : Type 0 where
        pub degree : ℕ
        pub parted : Parted (cells_of le) (Children degree) (Rising degree) ls₀ es list own count ls₁ (get_or ls i no_link).next (Some i)
        pub falls : left ls₁ (get_or ls i no_link).next < left ls a

      turned_at : Parted (cells_of le) (Children (trees n.right)) (Rising (trees n.right)) ls₀ es list own count (set ls i (before_next (get_or ls i no_link) b)) (get_or ls i no_link).next (Some i)
      turned_at =
          let v = here.one.stored.valid.0 in
          first_back (cells_of le) (laid le) law p at (moved_first (cells_of le) (laid le) law (Children (trees n.right)) (Rising (trees n.right)) ls es b i n.entry n.left n.right p.second here (v.0.2, refl) (omega (arith, v.0.0), v.0.1, lower p.second (omega (arith, v.0.0, v.1)) here.two.stored.valid.0))

      pub turned : (ls₁ : List Link) → ls₁ ≡ set ls i (before_next (get_or ls i no_link) b) → Turned ls₁
      turned ls₁ is = subst Turned (sym is) (record {
        degree = trees n.right;
        parted = turned_at;
        falls = omega (arith, left_of (trees n.right) (get_or ls i no_link).next turned_at.first turned_at.apart.one, left_of k a p.first p.apart.one, here.one.stored.valid.0.1);
      })
