-- An entry with the next stamp enters the heap, and is marked.
use Rattle.std.proofs.Common.{◌≡◌, ℕ, ◌+◌, ◌<◌, Bool, true, ltb, ◌≢◌, List, [], ◌∷◌, map, length, get_or, set, Ok, sum_by, sym, refl, ap, ◌∙◌, subst, inl, inr, arith}
use Rattle.std.proofs.lemmas.List.{length-set, map-set, get_or-set_same, get_or-set_other}
use Rattle.std.proofs.lemmas.List.Sums.{sum_by-set}
use Rattle.std.proofs.lemmas.Bool.Decides.{nat_tests}
use Rattle.std.proofs.lemmas.Bool.{cases_eq, lt-ltb}
use Rattle.elements.specs.declared.entries.Entry.{Entry}
use Rattle.elements.specs.Order.{Strict, precedes_by, stamp_of}
use Rattle.stores.specs.SortedLists.{merge, insert, tally, Sorted}
use Rattle.stores.specs.Meaning.{State, Meaning, list_of}
use Rattle.stores.specs.Calls.{put_answer}
use Rattle.stores.specs.Promises.{Puts, Bare}
use Rattle.stores.proofs.Inserting.{length-insert, tally-insert}
use Rattle.cancelled.specs.Cancelled.{queued, kept, cancelled, lazily, lazily_state, lazily_fixed, Front, Marked, Over}
use Rattle.cancelled.proofs.Keeping.{keep_yes, kept_nil, kept_alike, front_alike, alike_other, tally_kept, Alike}
use Rattle.cancelled.proofs.Joining.{kept_merge, front_merge}
use Rattle.cancelled.proofs.Places.{all_at, sum_at, map_changed, all_changed}
use Rattle.cancelled.proofs.Marking.{kept_at, live_parted, ties_enter}
use Rattle.cancelled.proofs.Layer.{formed_lazily, over_next, queues_kept, counts_at, front_at, put_answer_lazily}

module _ {T : Type 0} {le : T → T → Bool} {B : Type 0} (marks counts : List ℕ) (h : ℕ) (m : Meaning T) (o : Over le B marks counts h m) (q s : ℕ) (ok : Ok s ≡ put_answer m q) where
  abbrev lists : List (List (Entry T))
  lists = m.state.lists

  abbrev kss : List (List (Entry T))
  kss = map (kept marks) m.state.lists

  abbrev new : List ℕ
  new = set marks s (q + 1)

  pub put_near : q < 32
  put_near = grind (arith, nat_tests)

  put_next : (s ≡ m.state.next) × (m.state.next ≢ m.fixed.stamps)
  put_next = (grind (arith, nat_tests), grind (arith, nat_tests))

  pub put_fits : s < length marks
  put_fits = let a = put_next in omega (arith, a.0, a.1, o.formed.issued, o.formed.sizes.few_stamps, o.marked.places)

  -- no entry has the stamp yet
  absent : (p : ℕ) → tally stamp_of (get_or lists p []) s ≡ 0
  absent p =
      let a = put_next in
      let f = o.formed.stamps s in
      let k = sum_at (λ xs. tally stamp_of xs s) [] refl lists p in
      grind (arith, nat_tests)

  alike : (p : ℕ) → Alike marks new (get_or lists p [])
  alike p = alike_other marks s (q + 1) (get_or lists p []) (absent p)

  on : queued new s ≡ true
  on = ap (ltb 0) (get_or-set_same marks s (q + 1) 0 put_fits) ∙ lt-ltb 0 (q + 1) (omega arith)

  module _ (law : Strict (precedes_by le) stamp_of) (x : T) where
    abbrev entry : Entry T
    entry = record { element = x; stamp = s }

    abbrev below : List (Entry T)
    below = insert (precedes_by le) entry (list_of m.state q)

    abbrev zs : List (Entry T)
    zs = insert (precedes_by le) entry (get_or kss q [])

    entered : kept new below ≡ zs
    entered =
        kept_merge (precedes_by le) law new (entry ∷ []) (list_of m.state q) (tt, tt) (all_at (Sorted (precedes_by le)) [] tt lists q o.formed.sorted)
        ∙ ap (λ l. merge (precedes_by le) l (kept new (list_of m.state q))) (keep_yes new entry [] on ∙ ap (λ l. entry ∷ l) (kept_nil new))
        ∙ ap (merge (precedes_by le) (entry ∷ [])) (kept_alike marks new (list_of m.state q) (alike q) ∙ sym (kept_at marks lists q))

    put_lists : map (kept new) (set lists q below) ≡ set kss q zs
    put_lists = map_changed (kept marks) (kept new) [] lists q below zs entered (λ p _. kept_alike marks new (get_or lists p []) (alike p))

    put_marked : Marked new (set counts q (get_or counts q 0 + 1)) (set lists q below)
    put_marked =
        let longer : get_or counts q 0 + 1 ≡ length zs = omega (arith, counts_at marks counts h m o q, length-insert (precedes_by le) entry (get_or kss q [])) in
        let none : (p : ℕ) → tally stamp_of (get_or kss p []) s ≡ 0 = λ p. ap (λ l. tally stamp_of l s) (kept_at marks lists p) ∙ (let z = tally_kept marks (get_or lists p []) s in let y = absent p in omega arith) in
        record {
          places = length-set marks s (q + 1) ∙ o.marked.places;
          within = λ j. elim (cases_eq j s) [ inl e ↦ rw (e, get_or-set_same marks s (q + 1) 0 put_fits) (omega (arith, put_near)) | inr ne ↦ rw (get_or-set_other marks s j (q + 1) 0 ne) (o.marked.within j) ];
          counted = rw put_lists (ap (λ l. set l q (get_or counts q 0 + 1)) o.marked.counted ∙ ap (set (map length kss) q) longer ∙ sym (map-set length kss q zs));
          tied = rw put_lists (ties_enter marks kss (queues_kept marks counts h m o) o.marked.tied s q zs put_fits put_near none (λ k. tally-insert (precedes_by le) stamp_of entry (get_or kss q []) k));
          fronts = all_changed (Front marks) (Front new) [] lists q below
              (front_merge (precedes_by le) new (entry ∷ []) (list_of m.state q) on (front_alike marks new (list_of m.state q) (alike q) (front_at marks counts h m o q)))
              (λ p _ f. front_alike marks new (get_or lists p []) (alike p) f)
              o.marked.fronts;
        }

    put_held : sum_by (cancelled new) (set lists q below) ≡ sum_by (cancelled marks) lists
    put_held =
        let one = live_parted marks lists in
        let two = live_parted new (set lists q below) in
        let same = ap (sum_by length) put_lists in
        let three = sum_by-set length lists q below [] (omega (arith, o.formed.queues, put_near)) in
        let four = sum_by-set length kss q zs [] (omega (arith, queues_kept marks counts h m o, put_near)) in
        let five = length-insert (precedes_by le) entry (list_of m.state q) in
        let six = length-insert (precedes_by le) entry (get_or kss q []) in
        omega arith

    -- the heap below means n after the call
    module _ {C : Type 0} (n : Meaning T) (c : C) (e : Puts le m q x (Ok s) n) (b : Bare n) (marks' counts' : List ℕ) (h' : ℕ) (em : marks' ≡ new) (ec : counts' ≡ set counts q (get_or counts q 0 + 1)) (eh : h' ≡ h) where
      exact : Over le C new (set counts q (get_or counts q 0 + 1)) h n
      exact = over_next marks counts h m o new (set counts q (get_or counts q 0 + 1)) n c e.formed b e.fixed (subst (λ (z : State T). Marked new (set counts q (get_or counts q 0 + 1)) z.lists) (sym e.after) put_marked)

      pub put_over : Over le C marks' counts' h' n
      put_over = rw (em, ec, eh) exact

      pub puts_lazily : Puts le (lazily marks m) q x (Ok s) (lazily marks' n)
      puts_lazily = rw em (record {
        answer = ok ∙ put_answer_lazily marks counts h m o q;
        after = ap (lazily_state new) e.after ∙ ap (λ l. record { lists = l; next = s + 1 }) put_lists;
        fixed = ap lazily_fixed e.fixed;
        held = ap (λ (z : State T). sum_by (cancelled new) z.lists) e.after ∙ put_held;
        formed = formed_lazily new (set counts q (get_or counts q 0 + 1)) h n exact law;
      })
