-- Two trees of one degree become one of the next.
use Rattle.std.proofs.Common.{ℕ, ◌+◌, Bool, List, get_or, None, Option, sym, refl, ap, ◌∙◌, subst, arith}
use Rattle.elements.specs.declared.entries.Entry.{Entry}
use Rattle.cells.specs.Trees.{Tree, leaf, node, size}
use Rattle.forests.specs.Parts.{Rooted, Joinable, Joined, Joins, over}
use Rattle.forests.proofs.Joining.{join_swapped, joined_shape}
use Rattle.binomial.specs.Binomial.{Children, Lone, HasRoom, cells_of, no_link}
use Rattle.binomial.specs.declared.links.Link.{Link}
use Rattle.binomial.proofs.Degrees.{low}

-- two trees of degree k that can be joined
pub record Twins {T : Type 0} (le : T → T → Bool) (ls : List Link) (es : List (Entry T)) (k i j : ℕ) (s t : Tree (Entry T)) : Type 0 where
  pub joinable : Joinable (cells_of le) ls es i j None s t leaf
  pub one : Lone k s
  pub two : Lone k t

lone_over : {A : Type 0} (k : ℕ) (s t : Tree A) → Lone k s → Lone k t → Lone (k + 1) (over s t leaf)
lone_over k leaf t h g = absurd h
lone_over k (node i e c s) leaf h g = absurd g
lone_over k (node i e c s) (node j f d t) h g = (refl, ((g.1.1 ∙ sym h.1.1, g.1.0, h.1.0), omega (arith, h.1.1)))

module _ {T : Type 0} (le : T → T → Bool) {ls : List Link} {es : List (Entry T)} where
  twins_swapped : {k i j : ℕ} {s t : Tree (Entry T)} → Twins le ls es k i j s t → Twins le ls es k j i t s
  twins_swapped q = record { joinable = join_swapped (cells_of le) q.joinable; one = q.two; two = q.one }

  -- the children of a tree of degree k
  pub children_of : {k i : ℕ} {t : Tree (Entry T)} (o : Rooted (cells_of le) ls es i t) → Lone k t → Children k o.children
  children_of {k} {i} {t} o h = (subst (Lone k) o.is h).1

  room_at : {k i j : ℕ} {s t : Tree (Entry T)} → Twins le ls es k i j s t → HasRoom (get_or ls i no_link)
  room_at {k} {i} {j} {s} {t} q =
      let o = q.joinable.one in
      let c = children_of o q.one in
      omega (arith, ap (λ (x : Link). x.degree) o.linked, low o.children c.0 (omega (arith, q.joinable.few, ap size o.is)))

  pub twins_room : {k i j : ℕ} {s t : Tree (Entry T)} → Twins le ls es k i j s t → HasRoom (get_or ls i no_link) × HasRoom (get_or ls j no_link)
  twins_room q = (room_at q, room_at (twins_swapped q))

  pub twins_joined : {k i j : ℕ} {s t : Tree (Entry T)} {last : List Link} {r : Option ℕ} → Twins le ls es k i j s t → Joined (cells_of le) (Joins s t leaf) ls es s t leaf last r → Joined (cells_of le) (Lone (k + 1)) ls es s t leaf last r
  twins_joined {k} {s = s} {t = t} q m = joined_shape (cells_of le) {R = Lone (k + 1)} s t leaf (lone_over k s t q.one q.two) (lone_over k t s q.two q.one) m
