-- The queue b joins the queue a below, and its stamps get the mark of a.
use Rattle.std.proofs.Common.{◌≡◌, ℕ, ◌+◌, ◌<◌, Bool, ◌||◌, eqb, leb, ◌≢◌, List, [], ◌∷◌, map, length, get_or, set, Ok, sum_by, sym, ap, ◌∙◌, subst, inl, inr, arith}
use Rattle.std.proofs.lemmas.List.{length-map, map-set}
use Rattle.std.proofs.lemmas.Bool.Decides.{nat_tests}
use Rattle.std.proofs.lemmas.Bool.{cond-true, cond-false, cases_Bool, cases_eq, eq-eqb}
use Rattle.elements.specs.declared.entries.Entry.{Entry}
use Rattle.elements.specs.Order.{Strict, precedes_by, stamp_of}
use Rattle.stores.specs.SortedLists.{merge, Sorted}
use Rattle.stores.specs.Meaning.{State, Meaning, list_of}
use Rattle.stores.specs.Calls.{meld_answer}
use Rattle.stores.specs.Promises.{Melds, Bare}
use Rattle.stores.proofs.Answering.{meld_told}
use Rattle.stores.proofs.Merging.{tally-merge}
use Rattle.stores.proofs.Inserting.{length-merge}
use Rattle.cancelled.specs.Cancelled.{kept, cancelled, renamed, lazily, lazily_state, lazily_fixed, Front, Marked, Over}
use Rattle.cancelled.proofs.Keeping.{kept_nil, kept_alike, front_alike, Alike}
use Rattle.cancelled.proofs.Joining.{kept_merge, front_merge}
use Rattle.cancelled.proofs.Places.{all_at, sum_joined, map_alike, all_changed}
use Rattle.cancelled.proofs.Marking.{kept_at, live_parted, ties_join, renamed_queued, renamed_within}
use Rattle.cancelled.proofs.Layer.{formed_lazily, over_next, queues_kept, counts_at, front_at}

module _ {T : Type 0} {le : T → T → Bool} {B : Type 0} (marks counts : List ℕ) (h : ℕ) (m : Meaning T) (o : Over le B marks counts h m) (a b n : ℕ) (ok : Ok n ≡ meld_answer m.state a b) where
  abbrev lists : List (List (Entry T))
  lists = m.state.lists

  abbrev kss : List (List (Entry T))
  kss = map (kept marks) m.state.lists

  abbrev new : List ℕ
  new = renamed (b + 1) (a + 1) marks

  abbrev sums : List ℕ
  sums = set (set counts a (get_or counts a 0 + get_or counts b 0)) b 0

  pub meld_apart : (a < 32) × (b < 32) × (a ≢ b)
  meld_apart =
      elim (cases_Bool (leb 32 a || leb 32 b)) [
        | inl far ↦ (let k = ok ∙ cond-true (leb 32 a || leb 32 b) _ _ far in absurd (let z : ◌≡◌ {A = ℕ} 0 1 = cc in omega arith))
        | inr near ↦
            elim (cases_eq a b) [
              | inl same ↦ (let k = ok ∙ cond-false (leb 32 a || leb 32 b) _ _ near ∙ cond-true (eqb a b) _ _ (eq-eqb a b same) in absurd (let z : ◌≡◌ {A = ℕ} 0 1 = cc in omega arith))
              | inr ne ↦ (grind (arith, nat_tests), grind (arith, nat_tests), ne)
            ]
      ]

  -- the same entries count
  alike : (xs : List (Entry T)) → Alike marks new xs
  alike [] = tt
  alike (x ∷ xs) = (renamed_queued (b + 1) (a + 1) marks x.stamp (omega arith) (omega arith), alike xs)

  module _ (law : Strict (precedes_by le) stamp_of) where
    abbrev below : List (Entry T)
    below = merge (precedes_by le) (list_of m.state a) (list_of m.state b)

    abbrev zs : List (Entry T)
    zs = merge (precedes_by le) (get_or kss a []) (get_or kss b [])

    joined : kept marks below ≡ zs
    joined =
        let sorted : (p : ℕ) → Sorted (precedes_by le) (list_of m.state p) = λ p. all_at (Sorted (precedes_by le)) [] tt lists p o.formed.sorted in
        kept_merge (precedes_by le) law marks (list_of m.state a) (list_of m.state b) (sorted a) (sorted b)
        ∙ ap (λ u. merge (precedes_by le) u (kept marks (list_of m.state b))) (sym (kept_at marks lists a))
        ∙ ap (merge (precedes_by le) (get_or kss a [])) (sym (kept_at marks lists b))

    meld_lists : map (kept new) (set (set lists a below) b []) ≡ set (set kss a zs) b []
    meld_lists =
        map_alike (kept marks) (kept new) [] (set (set lists a below) b []) (λ p. kept_alike marks new (get_or (set (set lists a below) b []) p []) (alike (get_or (set (set lists a below) b []) p [])))
        ∙ map-set (kept marks) (set lists a below) b []
        ∙ ap (set (map (kept marks) (set lists a below)) b) (kept_nil marks)
        ∙ ap (λ u. set u b []) (map-set (kept marks) lists a below ∙ ap (set kss a) joined)

    meld_marked : Marked new sums (set (set lists a below) b [])
    meld_marked =
        let k = meld_apart in
        let long : get_or counts a 0 + get_or counts b 0 ≡ length zs = omega (arith, counts_at marks counts h m o a, counts_at marks counts h m o b, length-merge (precedes_by le) (get_or kss a []) (get_or kss b [])) in
        record {
          places = length-map marks _ ∙ o.marked.places;
          within = λ j. renamed_within (b + 1) (a + 1) marks j (λ z. omega (arith, z)) (omega (arith, k.0)) (o.marked.within j);
          counted = rw meld_lists (ap (λ l. set (set l a (get_or counts a 0 + get_or counts b 0)) b 0) o.marked.counted ∙ ap (λ v. set (set (map length kss) a v) b 0) long ∙ sym (map-set length (set kss a zs) b [] ∙ ap (λ l. set l b 0) (map-set length kss a zs)));
          tied = rw meld_lists (ties_join marks kss (queues_kept marks counts h m o) o.marked.tied a b zs k.0 k.1 k.2 (λ i. tally-merge (precedes_by le) stamp_of (get_or kss a []) (get_or kss b []) i));
          fronts =
              all_changed (Front new) (Front new) [] (set lists a below) b [] tt (λ p _ f. f)
              (all_changed (Front marks) (Front new) [] lists a below
              (front_merge (precedes_by le) new (list_of m.state a) (list_of m.state b)
              (front_alike marks new (list_of m.state a) (alike (list_of m.state a)) (front_at marks counts h m o a))
              (front_alike marks new (list_of m.state b) (alike (list_of m.state b)) (front_at marks counts h m o b)))
              (λ p _ f. front_alike marks new (get_or lists p []) (alike (get_or lists p [])) f)
              o.marked.fronts);
        }

    meld_held : sum_by (cancelled new) (set (set lists a below) b []) ≡ sum_by (cancelled marks) lists
    meld_held =
        let k = meld_apart in
        let one = live_parted marks lists in
        let two = live_parted new (set (set lists a below) b []) in
        let same = ap (sum_by length) meld_lists in
        let three = sum_joined lists a b below (omega (arith, o.formed.queues, k.0)) (omega (arith, o.formed.queues, k.1)) k.2 (length-merge (precedes_by le) (list_of m.state a) (list_of m.state b)) in
        let four = sum_joined kss a b zs (omega (arith, queues_kept marks counts h m o, k.0)) (omega (arith, queues_kept marks counts h m o, k.1)) k.2 (length-merge (precedes_by le) (get_or kss a []) (get_or kss b [])) in
        omega arith

    -- the heap below means k after the call
    module _ {C : Type 0} (k : Meaning T) (c : C) (e : Melds le m a b (Ok n) k) (bare : Bare k) (marks' counts' : List ℕ) (h' : ℕ) (em : marks' ≡ new) (ec : counts' ≡ sums) (eh : h' ≡ h) where
      exact : Over le C new sums h k
      exact = over_next marks counts h m o new sums k c e.formed bare e.fixed (subst (λ (z : State T). Marked new sums z.lists) (sym e.after) meld_marked)

      pub meld_over : Over le C marks' counts' h' k
      meld_over = rw (em, ec, eh) exact

      pub melds_lazily : (r : ℕ) → r ≡ get_or counts b 0 → Melds le (lazily marks m) a b (Ok r) (lazily marks' k)
      melds_lazily r er = rw em (record {
        answer = let near = meld_apart in meld_told (lazily marks m).state a b r near.0 near.1 near.2 (er ∙ counts_at marks counts h m o b);
        after = ap (lazily_state new) e.after ∙ ap (λ l. record { lists = l; next = m.state.next }) meld_lists;
        fixed = ap lazily_fixed e.fixed;
        held = omega (arith, ap (λ (z : State T). sum_by (cancelled new) z.lists) e.after, meld_held);
        formed = formed_lazily new sums h k exact law;
      })
