-- The meld of two leftist heaps: what a turn of it needs and what it comes to.
use Rattle.std.specs.Option.{option_or}
use Rattle.std.proofs.Common.{◌≡◌, ◌⊎◌, ℕ, ◌+◌, ◌<◌, ◌≤◌, Bool, true, false, leb, List, ◌∷◌, length, get_or, set, IfSome, Some, None, Option, sym, refl, ap, ◌∙◌, subst, arith, length-set}
use Rattle.std.proofs.lemmas.List.{get_or-set_same, get_or-set_other}
use Rattle.std.proofs.lemmas.Bool.Decides.{nat_tests}
use Rattle.elements.specs.declared.entries.Entry.{Entry}
use Rattle.elements.specs.Order.{Laws, Strict, precedes_by, stamp_of}
use Rattle.elements.proofs.Strictness.{strict}
use Rattle.stores.specs.SortedLists.{merge, tally, Leads}
use Rattle.stores.proofs.Merging.{merge_first, merge_assoc, merge_comm, tally-merge, leads_merge}
use Rattle.cells.specs.Trees.{Tree, leaf, node, root, size, uses, Linked}
use Rattle.cells.specs.Forms.{Stored, StoredAt, Meldable, Melded}
use Rattle.cells.proofs.Trees.{node_at, read_same, framed, set_framed, root_within}
use Rattle.cells.proofs.Meldability.{swapped, named, root_entry, unswapped, one_empty, second_first}
use Rattle.cells.specs.Binary.{Over, listed}
use Rattle.cells.proofs.Binary.{over_leads, leads_over}
use Rattle.leftist.specs.Leftist.{rank, link_of, no_link, rank_at, joined, leftist}
use Rattle.leftist.specs.Lawful.{lawful}
use Rattle.leftist.specs.declared.links.Link.{Link}
use Rattle.leftist.proofs.Ranks.{rank_few}

abbrev pub right : {A : Type 0} → Tree A → Tree A
right leaf = leaf
right (node i e l r) = r

-- the rank in the slice is the tree's
rank_at_is : {A : Type 0} (ls : List Link) (t : Tree A) → Linked link_of no_link ls t → rank_at ls (root t) ≡ rank t
rank_at_is ls leaf h = refl
rank_at_is ls (node i e l r) h = ap (λ (k : Link). k.rank) h.1

joined_is : {A : Type 0} (ls : List Link) (p q : Option ℕ) (l w : Tree A) → p ≡ root l → q ≡ root w → rank_at ls p ≡ rank l → rank_at ls q ≡ rank w → joined ls p q ≡ elim (leb (rank w) (rank l)) as (λ _. Link) [ true ↦ link_of l w | false ↦ link_of w l ]
joined_is ls p q l w ep eq hp hq = λ d. elim (leb (hq d) (hp d)) as (λ _. Link) [ true ↦ record { left = ep d; right = eq d; rank = hq d + 1 } | false ↦ record { left = eq d; right = ep d; rank = hp d + 1 } ]

-- what `join` asks of the links, of the cell i and of the tree at rest
pub record Joinable (ls : List Link) (i : ℕ) (rest : Option ℕ) : Type 0 where
  pub at : i < length ls
  pub left : IfSome (get_or ls i no_link).left (λ k. k < length ls)
  pub rest_at : IfSome rest (λ k. k < length ls)
  pub fits : rank_at ls (get_or ls i no_link).left + rank_at ls rest < 65535

module _ {T : Type 0} (le : T → T → Bool) (laws : Laws le) where
  abbrev before : Entry T → Entry T → Bool
  before = precedes_by le

  law : Strict (precedes_by le) (stamp_of {T = T})
  law = strict le laws

  -- the root of the first heap, e in cell i, comes first: its right subtree r is melded with the second heap, t
  module _ (ls : List Link) (es : List (Entry T)) (i : ℕ) (e : Entry T) (l r t : Tree (Entry T)) (b : Option ℕ) (p : Meldable (leftist le) ls es (Some i) b (node i e l r) t) where
    sub : Meldable (leftist le) ls es (root r) b r t
    sub = record {
      one = record { at = refl; stored = record { linked = p.one.stored.linked.3; held = p.one.stored.held.3; valid = (p.one.stored.valid.0.2, p.one.stored.valid.1.3) } };
      two = p.two;
      cells = λ k. omega (arith, p.cells k);
      stamps = λ k. omega (arith, p.stamps k, tally-merge before stamp_of (listed before l) (listed before r) k);
      few = omega (arith, p.few);
    }

    -- the links are then ls', and the heap made is at rest
    module _ (ls' : List Link) (rest : Option ℕ) (long : length ls ≡ length ls') (m : Melded (leftist le) ls es r t ls' rest) where
      free_i : (uses l i ≡ 0) × (uses r i + uses t i ≡ 0)
      free_i = grind (arith, nat_tests, p.cells i)

      linked_l : Linked link_of no_link ls' l
      linked_l = framed link_of no_link ls ls' l (omega arith) (λ k h. m.others k (omega (arith, p.cells k))) p.one.stored.linked.2

      stored_l : Stored (leftist le) ls' es l
      stored_l = record { linked = linked_l; held = p.one.stored.held.2; valid = (p.one.stored.valid.0.1, p.one.stored.valid.1.2) }

      left_is : (get_or ls' i no_link).left ≡ root l
      left_is = ap (λ (k : Link). k.left) (m.others i free_i.1 ∙ p.one.stored.linked.1)

      rank_l : rank_at ls' (get_or ls' i no_link).left ≡ rank l
      rank_l = ap (rank_at ls') left_is ∙ rank_at_is ls' l linked_l

      rank_w : rank_at ls' rest ≡ rank m.tree
      rank_w = ap (rank_at ls') m.stored_at.at ∙ rank_at_is ls' m.tree m.stored_at.stored.linked

      joinable : Joinable ls' i rest
      joinable = record {
        at = omega (arith, p.one.stored.linked.0);
        left = subst (λ o. IfSome o (λ k. k < length ls')) (sym left_is) (root_within link_of no_link ls' l linked_l);
        rest_at = subst (λ o. IfSome o (λ k. k < length ls')) (sym m.stored_at.at) (root_within link_of no_link ls' m.tree m.stored_at.stored.linked);
        fits = omega (arith, rank_l, rank_w, rank_few l, rank_few m.tree, m.counts, p.few);
      }

      -- the node over l₁ and l₂, which are l and the heap made in either order
      built : (l₁ l₂ : Tree (Entry T)) → Stored (leftist le) ls' es l₁ → Stored (leftist le) ls' es l₂ → rank l₂ ≤ rank l₁ → Over before e l₁ → Over before e l₂ → e ∷ merge before (listed before l₁) (listed before l₂) ≡ merge before (listed before (node i e l r)) (listed before t) → ((k : ℕ) → uses l₁ k + uses l₂ k ≡ uses l k + uses r k + uses t k) → size l₁ + size l₂ ≡ size l + size r + size t → Melded (leftist le) ls es (node i e l r) t (set ls' i (link_of l₁ l₂)) (Some i)
      built l₁ l₂ s₁ s₂ rk o₁ o₂ list cells count =
          let within : i < length ls' = omega (arith, p.one.stored.linked.0) in
          record {
            tree = node i e l₁ l₂;
            stored_at = record {
              at = refl;
              stored = record {
                linked = (rw (length-set ls' i (link_of l₁ l₂)) within, get_or-set_same ls' i (link_of l₁ l₂) no_link within, set_framed link_of no_link ls' l₁ i (link_of l₁ l₂) (omega (arith, cells i, free_i.0, free_i.1)) s₁.linked, set_framed link_of no_link ls' l₂ i (link_of l₁ l₂) (omega (arith, cells i, free_i.0, free_i.1)) s₂.linked);
                held = (p.one.stored.held.0, p.one.stored.held.1, s₁.held, s₂.held);
                valid = ((rk, s₁.valid.0, s₂.valid.0), (o₁, o₂, s₁.valid.1, s₂.valid.1));
              };
            };
            lists = list;
            cells = λ k. omega (arith, cells k);
            counts = omega (arith, count);
            others = λ k h. get_or-set_other ls' i k (link_of l₁ l₂) no_link (grind (arith, nat_tests, h)) ∙ m.others k (omega arith);
          }

      module _ (ahead : Leads before e (listed before t)) where
        over_w : Over before e m.tree
        over_w = leads_over before e m.tree (subst (Leads before e) (sym m.lists) (leads_merge before e (listed before r) (listed before t) (over_leads before e r p.one.stored.valid.1.1) ahead))

        list : e ∷ merge before (listed before l) (listed before m.tree) ≡ merge before (listed before (node i e l r)) (listed before t)
        list = ap (λ x. e ∷ merge before (listed before l) x) m.lists ∙ ap (λ x. e ∷ x) (sym (merge_assoc before stamp_of law (listed before l) (listed before r) (listed before t))) ∙ sym (merge_first before stamp_of law e (merge before (listed before l) (listed before r)) (listed before t) ahead)

        once : (k : ℕ) → tally stamp_of (listed before m.tree) k + tally stamp_of (listed before l) k ≤ 1
        once k = omega (arith, p.stamps k, ap (λ x. tally stamp_of x k) m.lists, tally-merge before stamp_of (listed before l) (listed before r) k, tally-merge before stamp_of (listed before r) (listed before t) k)

        by_rank : (c : Bool) → leb (rank m.tree) (rank l) ≡ c → Melded (leftist le) ls es (node i e l r) t (set ls' i (elim c as (λ _. Link) [ true ↦ link_of l m.tree | false ↦ link_of m.tree l ])) (Some i)
        by_rank true h = built l m.tree stored_l m.stored_at.stored (grind (arith, nat_tests, h)) p.one.stored.valid.1.0 over_w list (λ k. omega (arith, m.cells k)) (omega (arith, m.counts))
        by_rank false h = built m.tree l m.stored_at.stored stored_l (grind (arith, nat_tests, h)) over_w p.one.stored.valid.1.0 (ap (λ x. e ∷ x) (merge_comm before stamp_of law (listed before m.tree) (listed before l) once) ∙ list) (λ k. omega (arith, m.cells k)) (omega (arith, m.counts))

        whole : Melded (leftist le) ls es (node i e l r) t (set ls' i (joined ls' (get_or ls' i no_link).left rest)) (Some i)
        whole = rw (joined_is ls' (get_or ls' i no_link).left rest l m.tree left_is m.stored_at.at rank_l rank_w) (by_rank (leb (rank m.tree) (rank l)) refl)

  leads : (ls : List Link) (es : List (Entry T)) (j : ℕ) (t : Tree (Entry T)) → StoredAt (leftist le) ls es (Some j) t → (e y : Entry T) → y ≡ get_or es j y → before e y ≡ true → Leads before e (listed before t)
  leads ls es j t st e y hy h = subst (λ u. Leads before e (listed before u)) (sym (root_entry (leftist le) st y hy).2) h

  -- one turn of the meld of s, whose root at i comes first, and t, whose root is at j
  pub record Turn (ls : List Link) (es : List (Entry T)) (i j : ℕ) (s t : Tree (Entry T)) : Type 0 where
    pub links : i < length ls
    pub entries : i < length es
    pub meldable : Meldable (leftist le) ls es (get_or ls i no_link).right (Some j) (right s) t
    pub falls : rank_at ls (get_or ls i no_link).right < rank_at ls (Some i)
    pub joins : (ls' : List Link) (rest : Option ℕ) → length ls ≡ length ls' → Melded (leftist le) ls es (right s) t ls' rest → Joinable ls' i rest
    pub ends : (x y : Entry T) → x ≡ get_or es i x → y ≡ get_or es j y → before x y ≡ true → (ls' : List Link) (rest : Option ℕ) → length ls ≡ length ls' → Melded (leftist le) ls es (right s) t ls' rest → (last : List Link) → last ≡ set ls' i (joined ls' (get_or ls' i no_link).left rest) → Melded (leftist le) ls es s t last (Some i)

  turn_at : (ls : List Link) (es : List (Entry T)) (i j : ℕ) (e : Entry T) (l r t : Tree (Entry T)) → Meldable (leftist le) ls es (Some i) (Some j) (node i e l r) t → Turn ls es i j (node i e l r) t
  turn_at ls es i j e l r t p = record {
    links = p.one.stored.linked.0;
    entries = p.one.stored.held.0;
    meldable = subst (λ o. Meldable (leftist le) ls es o (Some j) r t) (sym (ap (λ (k : Link). k.right) p.one.stored.linked.1)) (sub ls es i e l r t (Some j) p);
    falls = omega (arith, rank_at_is ls r p.one.stored.linked.3, ap (λ (k : Link). rank_at ls k.right) p.one.stored.linked.1, ap (λ (k : Link). k.rank) p.one.stored.linked.1);
    joins = λ ls' rest long m. joinable ls es i e l r t (Some j) p ls' rest long m;
    ends = λ x y hx hy h ls' rest long m last is. subst (λ q. Melded (leftist le) ls es (node i e l r) t q (Some i)) (sym is) (whole ls es i e l r t (Some j) p ls' rest long m (leads ls es j t p.two e y hy (subst (λ z. before z y ≡ true) (read_same es i x e p.one.stored.held.0 hx p.one.stored.held.1) h)));
  }

  turn : {ls : List Link} {es : List (Entry T)} {i j : ℕ} {s t : Tree (Entry T)} → Meldable (leftist le) ls es (Some i) (Some j) s t → Turn ls es i j s t
  turn {ls} {es} {i} {j} {s} {t} p =
      let n = node_at s i p.one.at in
      subst (λ u. Turn ls es i j u t) (sym n.is) (turn_at ls es i j n.entry n.left n.right t (subst (λ u. Meldable (leftist le) ls es (Some i) (Some j) u t) n.is p))

  -- the turn of a meld of the heaps at a and b, by which of the roots comes first
  module _ {ls : List Link} {es : List (Entry T)} {a b : Option ℕ} {i j : ℕ} {s t : Tree (Entry T)} (a-is : a ≡ Some i) (b-is : b ≡ Some j) (p : Meldable (leftist le) ls es a b s t) where
    pub first_turn : Turn ls es i j s t
    first_turn = turn (named (leftist le) a-is b-is p)

    pub second_turn : Turn ls es j i t s
    second_turn = turn (swapped (leftist le) (named (leftist le) a-is b-is p))

    pub second_precedes : (x y : Entry T) → x ≡ get_or es i x → y ≡ get_or es j y → before x y ≡ false → before y x ≡ true
    second_precedes x y hx hy h = second_first (leftist le) (lawful le law) law (named (leftist le) a-is b-is p) x y hx hy h

    pub turned : {ls' : List Link} {r : Option ℕ} → Melded (leftist le) ls es t s ls' r → Melded (leftist le) ls es s t ls' r
    turned m = unswapped (leftist le) (lawful le law) law p m

  -- a meld with nothing
  pub with_none : {ls : List Link} {es : List (Entry T)} {a b r : Option ℕ} (s t : Tree (Entry T)) → (a ≡ None) ⊎ (b ≡ None) → r ≡ option_or a b → Meldable (leftist le) ls es a b s t → Melded (leftist le) ls es s t ls r
  with_none s t e is p = one_empty (leftist le) (lawful le law) law s t e is p
