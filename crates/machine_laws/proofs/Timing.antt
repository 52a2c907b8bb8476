-- Both stores stay in order, records are told in time, and events that were taken do not come back.
use Rattle.std.proofs.Common.{◌≡◌, ℕ, ◌+◌, ◌<◌, ◌≤◌, ◌⊎◌, List, [], ◌∷◌, ◌++◌, length, Some, None, Option, sym, refl, subst, inl, inr, le_refl, arith}
use Rattle.std.specs.List.{AllByRecursion}
use Rattle.std.proofs.ByRecursion.{All-push}
use Rattle.std.proofs.lemmas.List.{get_or-set_same, get_or-set_other}
use Rattle.std.proofs.lemmas.Bool.{cases_eq, leb-false, eqb-false}
use Rattle.std.proofs.lemmas.Bool.Decides.{nat_tests}
use Rattle.elements.specs.declared.events.Event.{Event}
use Rattle.elements.specs.declared.lines.LineEntry.{LineEntry}
use Rattle.elements.specs.declared.entries.Entry.{Entry}
use Rattle.elements.specs.Elements.{event_le, line_le}
use Rattle.elements.specs.Order.{Laws, Strict, precedes_by, stamp_of}
use Rattle.elements.proofs.Strictness.{strict}
use Rattle.stores.specs.SortedLists.{without}
use Rattle.stores.specs.Meaning.{State, list_of, live}
use Rattle.stores.specs.Calls.{cancel_after, found, queue_with}
use Rattle.stores.proofs.Counting.{adds_up}
use Rattle.machine.specs.declared.records.Record.{Record}
use Rattle.machine.specs.Machine.{Store, Machine}
use Rattle.machine_laws.specs.Times.{Rising}
use Rattle.machine_laws.proofs.Elements.{all_insert, all_without}
use Rattle.machine_laws.proofs.TidyStores.{Tidy, tidy_put, tidy_take, tidy_meld, tidy_cancel}
use Rattle.machine_laws.proofs.Walks.{Closed}

event_laws : Laws event_le
event_laws = record { total = λ a b h. grind (arith, nat_tests); transitive = λ a b c h k. grind (arith, nat_tests) }

line_laws : Laws line_le
line_laws = record { total = λ a b h. grind (arith, nat_tests); transitive = λ a b c h k. grind (arith, nat_tests) }

pub event_strict : Strict (precedes_by event_le) stamp_of
event_strict = strict event_le event_laws

pub line_strict : Strict (precedes_by line_le) stamp_of
line_strict = strict line_le line_laws

abbrev pub Late : ℕ → Entry Event → Type 0
Late t e = t ≤ e.element.time

pub record Kept (t : ℕ) (events : Store Event) (lines : State LineEntry) (rs : List Record) : Type 0 where
  pub events_tidy : Tidy event_le events.state
  pub lines_tidy : Tidy line_le lines
  pub late : AllByRecursion (Late t) (list_of events.state 0)
  pub rising : Rising rs
  pub past : AllByRecursion (λ (r : Record). r.at ≤ t) rs
  pub spent : live events.state + events.taken ≤ events.state.next
  pub stamps : events.state.next ≤ events.bounds.stamps

abbrev pub Sound : Machine → Type 0
Sound m = Kept m.instant m.events m.lines.state m.records

rising_push : (rs : List Record) (x : Record) → Rising rs → AllByRecursion (λ (r : Record). r.at ≤ x.at) rs → Rising (rs ++ (x ∷ []))
rising_push [] x h p = (tt, tt)
rising_push (r ∷ rs) x h p = (All-push (λ (y : Record). r.at ≤ y.at) rs x h.0 p.0, rising_push rs x h.1 p.1)

abbrev Keeps : Machine → Machine → Type 0
Keeps m v = Sound m → Sound v

-- cancelling an event
module _ (k : ℕ) (s : State Event) where
  abbrev cancelled_events : Option ℕ → State Event
  cancelled_events o = cancel_after s k (found 0 o)

  cancelled_late : (t q : ℕ) → 0 < length s.lists → AllByRecursion (Late t) (list_of s 0) → AllByRecursion (Late t) (list_of (cancelled_events (Some q)) 0)
  cancelled_late t q lt h = go (cases_eq 0 q)
    where
      go : (0 ≡ q) ⊎ (0 ≡ q → ⊥) → AllByRecursion (Late t) (list_of (cancelled_events (Some q)) 0)
      go (inl e) = subst (λ j. AllByRecursion (Late t) (list_of (cancelled_events (Some j)) 0)) e (subst (AllByRecursion (Late t)) (sym (get_or-set_same s.lists 0 (without stamp_of k (list_of s 0)) [] lt)) (all_without (Late t) stamp_of k (list_of s 0) h))
      go (inr e) = subst (AllByRecursion (Late t)) (sym (get_or-set_other s.lists q 0 (without stamp_of k (list_of s q)) [] e)) h

  cancelled_by : (t : ℕ) (o : Option ℕ) → queue_with k s.lists 0 ≡ o → 0 < length s.lists → AllByRecursion (Late t) (list_of s 0) → AllByRecursion (Late t) (list_of (cancelled_events o) 0)
  cancelled_by t None e lt h = h
  cancelled_by t (Some q) e lt h = cancelled_late t q lt h

  fewer : (o : Option ℕ) → queue_with k s.lists 0 ≡ o → live (cancelled_events o) ≤ live s
  fewer None e = le_refl _
  fewer (Some q) e = omega (arith, (adds_up event_le).cancel s k q e)

  next_same : (o : Option ℕ) → (cancelled_events o).next ≡ s.next
  next_same None = refl
  next_same (Some q) = refl

pub keeps : Closed Keeps
keeps = record {
  same = λ m h. h;
  then = λ m v w a b h. b (a h);
  told = λ x m h. record { events_tidy = h.events_tidy; lines_tidy = h.lines_tidy; late = h.late; rising = rising_push m.records _ h.rising h.past; past = All-push _ m.records _ h.past (le_refl _); spent = h.spent; stamps = h.stamps };
  marked = λ i st m h. h;
  occupied = λ k m h. h;
  freed = λ k m h. h;
  closing = λ k j m e h. h;
  event_put = λ x m late free h.
      let s = m.events.state in
      let inside : 0 < length s.lists = omega (arith, h.events_tidy.queues) in
      record {
        events_tidy = tidy_put event_le event_strict s h.events_tidy 0 x (omega arith);
        lines_tidy = h.lines_tidy;
        late = subst (AllByRecursion (Late m.instant)) (sym (get_or-set_same s.lists 0 _ [] inside)) (all_insert (Late m.instant) (precedes_by event_le) (record { element = x; stamp = s.next }) (list_of s 0) late h.late);
        rising = h.rising;
        past = h.past;
        spent = omega (arith, h.spent, (adds_up event_le).put s 0 x s.next inside);
        stamps = let ne = eqb-false _ _ free in let le = h.stamps in grind (arith, nat_tests, ne, le);
      };
  event_cancelled = λ k m h.
      let s = m.events.state in
      let o = queue_with k s.lists 0 in
      record {
        events_tidy = tidy_cancel event_le event_strict s h.events_tidy k;
        lines_tidy = h.lines_tidy;
        late = cancelled_by k s m.instant o refl (omega (arith, h.events_tidy.queues)) h.late;
        rising = h.rising;
        past = h.past;
        spent = omega (arith, h.spent, fewer k s o refl, next_same k s o);
        stamps = omega (arith, h.stamps, next_same k s o);
      };
  line_put = λ q x m e h. record { events_tidy = h.events_tidy; lines_tidy = tidy_put line_le line_strict m.lines.state h.lines_tidy q x (leb-false _ _ e); late = h.late; rising = h.rising; past = h.past; spent = h.spent; stamps = h.stamps };
  line_taken = λ k m h. record { events_tidy = h.events_tidy; lines_tidy = tidy_take line_le line_strict m.lines.state h.lines_tidy k _ refl; late = h.late; rising = h.rising; past = h.past; spent = h.spent; stamps = h.stamps };
  line_cancelled = λ k m h. record { events_tidy = h.events_tidy; lines_tidy = tidy_cancel line_le line_strict m.lines.state h.lines_tidy k; late = h.late; rising = h.rising; past = h.past; spent = h.spent; stamps = h.stamps };
  line_melded = λ j k m h. record { events_tidy = h.events_tidy; lines_tidy = tidy_meld line_le line_strict m.lines.state h.lines_tidy j k; late = h.late; rising = h.rising; past = h.past; spent = h.spent; stamps = h.stamps };
  cut = λ c m h. h;
  failed = λ f s m h. h;
}
