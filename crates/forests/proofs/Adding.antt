-- Two forests become one: in either order, where one is empty, and where a tree goes before a forest.
use Rattle.std.specs.Option.{option_or}
use Rattle.std.proofs.Common.{◌≡◌, ◌⊎◌, inl, inr, ℕ, ◌+◌, ◌<◌, ◌≤◌, List, length, get_or, set, Some, None, Option, sym, refl, ap, ◌∙◌, subst, arith, Bool}
use Rattle.std.proofs.lemmas.List.{get_or-set_other}
use Rattle.std.proofs.lemmas.Bool.Decides.{nat_tests}
use Rattle.elements.specs.declared.entries.Entry.{Entry}
use Rattle.elements.specs.Order.{Strict, precedes_by, stamp_of}
use Rattle.stores.specs.SortedLists.{merge}
use Rattle.stores.proofs.Merging.{merge_comm}
use Rattle.cells.specs.Trees.{Tree, leaf, node, size, uses, Held}
use Rattle.cells.specs.Forms.{StoredAt}
use Rattle.cells.proofs.Trees.{framed, leaf_at}
use Rattle.forests.specs.Forests.{Layout, HeapOrdered, listed, shaped}
use Rattle.forests.specs.Parts.{Apart, Rooted, Added}
use Rattle.forests.specs.Layouts.{Consistent}
use Rattle.forests.proofs.Listing.{list_lone}
use Rattle.forests.proofs.Parting.{relinked}

module _ {T K : Type 0} {le : T → T → Bool} (L : Layout le K) where
  pub apart_swapped : {P Q : Tree (Entry T) → Type 0} {ls : List K} {es : List (Entry T)} {a b : Option ℕ} {s t : Tree (Entry T)} → Apart L P Q ls es a b s t → Apart L Q P ls es b a t s
  apart_swapped p = record { one = p.two; two = p.one; cells = λ k. omega (arith, p.cells k); stamps = λ k. omega (arith, p.stamps k); few = omega (arith, p.few) }

  -- a tree stays where its cells stay
  pub rooted_kept : {ls ls' : List K} {es : List (Entry T)} {i : ℕ} {t : Tree (Entry T)} → length ls' ≡ length ls → ((k : ℕ) → 0 < uses t k → get_or ls' k L.none ≡ get_or ls k L.none) → Rooted L ls es i t → Rooted L ls' es i t
  rooted_kept {ls} {ls'} {i = i} {t = t} long same o = record {
    entry = o.entry;
    children = o.children;
    siblings = o.siblings;
    is = o.is;
    within = omega (arith, long, o.within);
    linked = same i (grind (arith, nat_tests, ap (λ z. uses z i) o.is)) ∙ o.linked;
    below = framed L.link L.none ls ls' o.children (omega (arith, long)) (λ k u. same k (omega (arith, u, ap (λ z. uses z k) o.is))) o.below;
    held = o.held;
    ordered = o.ordered;
  }

  module _ (laid : Consistent L) (law : Strict (precedes_by le) (stamp_of {T = T})) where
    pub added_unswapped : {P Q R : Tree (Entry T) → Type 0} {ls ls' : List K} {es : List (Entry T)} {a b r : Option ℕ} {s t : Tree (Entry T)} → Apart L P Q ls es a b s t → Added L R ls es t s ls' r → Added L R ls es s t ls' r
    added_unswapped {s = s} {t = t} p m = record {
      tree = m.tree;
      stored_at = m.stored_at;
      lists = m.lists ∙ merge_comm (precedes_by le) stamp_of law (listed (precedes_by le) t) (listed (precedes_by le) s) (λ k. omega (arith, p.stamps k));
      cells = λ k. omega (arith, m.cells k);
      counts = omega (arith, m.counts);
      others = λ k z. m.others k (omega (arith, z));
    }

    pub added_none : {P Q : Tree (Entry T) → Type 0} {ls : List K} {es : List (Entry T)} {a b : Option ℕ} (s t : Tree (Entry T)) → a ≡ None → Apart L P Q ls es a b s t → Added L Q ls es s t ls b
    added_none s t none p =
        let z = leaf_at s (sym none ∙ p.one.at) in
        record {
          tree = t;
          stored_at = p.two;
          lists = ap (λ x. merge (precedes_by le) (listed (precedes_by le) x) (listed (precedes_by le) t)) (sym z);
          cells = λ k. omega (arith, ap (λ x. uses x k) z);
          counts = omega (arith, ap size z);
          others = λ k e. refl;
        }

    pub added_none_second : {P Q : Tree (Entry T) → Type 0} {ls : List K} {es : List (Entry T)} {a b c : Option ℕ} (s t : Tree (Entry T)) → b ≡ None → a ≡ c → Apart L P Q ls es a b s t → Added L P ls es s t ls c
    added_none_second {P} {ls = ls} {es = es} s t none at p = subst (λ o. Added L P ls es s t ls o) at (added_unswapped p (added_none t s none (apart_swapped p)))

    -- where one is empty, the other is all
    pub added_one : {P : Tree (Entry T) → Type 0} {ls : List K} {es : List (Entry T)} {a b r : Option ℕ} (s t : Tree (Entry T)) → (a ≡ None) ⊎ (b ≡ None) → r ≡ option_or a b → Apart L P P ls es a b s t → Added L P ls es s t ls r
    added_one {P = P} {ls = ls} {es = es} {a = a} {b = b} s t (inl e) is p = subst (λ o. Added L P ls es s t ls o) (sym (is ∙ ap (λ o. option_or o b) e)) (added_none s t e p)
    added_one {P = P} {ls = ls} {es = es} {a = None} {b = b} s t (inr e) is p = subst (λ o. Added L P ls es s t ls o) (sym is) (added_none s t refl p)
    added_one {a = Some i} {b = b} s t (inr e) is p = added_none_second s t e (sym is) p

    -- the tree at i goes before the forest at b
    module _ {Q : Tree (Entry T) → Type 0} (R : Tree (Entry T) → Type 0) (ls : List K) (es : List (Entry T)) (i : ℕ) (b : Option ℕ) (s t : Tree (Entry T)) (o : Rooted L ls es i s) (behind : StoredAt (shaped L Q) ls es b t) (cells : (k : ℕ) → uses s k + uses t k ≤ 1) where
      prepended_at : R (node i o.entry o.children t) → Added L R ls es (node i o.entry o.children leaf) t (set ls i (L.with_next (get_or ls i L.none) b)) (Some i)
      prepended_at shape =
          let held = subst (Held es) o.is o.held in
          let ordered = subst (HeapOrdered (precedes_by le)) o.is o.ordered in
          record {
            tree = node i o.entry o.children t;
            stored_at = record {
              at = refl;
              stored = record {
                linked = relinked L laid ls i o.entry o.children o.siblings t b o.within o.linked o.below behind.at behind.stored.linked (grind (arith, nat_tests, cells i, ap (λ z. uses z i) o.is)) (grind (arith, nat_tests, cells i, ap (λ z. uses z i) o.is));
                held = (held.0, held.1, held.2, behind.stored.held);
                valid = (shape, (ordered.0, ordered.1, behind.stored.valid.1));
              };
            };
            lists = ap (λ x. merge (precedes_by le) x (listed (precedes_by le) t)) (sym (list_lone (precedes_by le) i o.entry o.children));
            cells = λ k. omega arith;
            counts = omega arith;
            others = λ k z. get_or-set_other ls i k (L.with_next (get_or ls i L.none) b) L.none (grind (arith, nat_tests, z));
          }

      pub prepended : {last : List K} → last ≡ set ls i (L.with_next (get_or ls i L.none) b) → R (node i o.entry o.children t) → Added L R ls es s t last (Some i)
      prepended {last} is shape = subst (λ z. Added L R ls es s t z (Some i)) (sym is) (subst (λ z. Added L R ls es z t (set ls i (L.with_next (get_or ls i L.none) b)) (Some i)) (sym o.is) (prepended_at shape))
