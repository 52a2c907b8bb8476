-- What holds over every elementary change holds over every part of a step.
use Rattle.std.proofs.Common.{◌≡◌, ℕ, zero, suc, ◌≤◌, Bool, true, false, eqb, leb, ◌⊎◌, Some, None, Ok, Err, Option, Result, sym, refl, subst, inl, inr, arith}
use Rattle.elements.specs.declared.events.Event.{Event}
use Rattle.elements.specs.declared.events.EventKind.{EventKind}
use Rattle.elements.specs.declared.events.EventKind.TheVariants.{Arrive, Finish as Finishing, Withdraw, Close as Closing}
use Rattle.elements.specs.declared.lines.LineEntry.{LineEntry}
use Rattle.elements.specs.declared.entries.Entry.{Entry}
use Rattle.elements.specs.Elements.{event_le, line_le}
use Rattle.stores.specs.declared.refusals.Refusal.{Refusal}
use Rattle.stores.specs.Calls.{put_after}
use Rattle.machine.specs.declared.networks.OrderState.{OrderState}
use Rattle.machine.specs.declared.networks.OrderState.TheVariants.{NotYet, Waiting, InService, Done as is-done, Away as is-away, Withdrawn as is-withdrawn, Stranded}
use Rattle.machine.specs.declared.records.RecordKind.{RecordKind}
use Rattle.machine.specs.declared.records.StoreName.{StoreName}
use Rattle.machine.specs.Network.{station, order, has_free, open_station, occupied, closed as closed-net}
use Rattle.machine.specs.Machine.{Machine, listed, with_cut, with_network, with_events, with_lines, tell, fail, mark, strand, seq_by, branch, halted, as_is}
use Rattle.machine.specs.Puts.{Continuation, event_tried, put_event, line_tried, put_line}
use Rattle.machine.specs.Step.{meld_lines, started, start, at_limit, turned_away, waited, wait, its_entry, finish_event, enter_by, enter, line, take_line, start_by, start_front, free_bench, release, leave_by, leave, finish, cancel_line, cancel_event, withdraw_by, withdraw, fill_by, fill_one, fill, stays_open, close_into, close_by, close, react}
use Rattle.machine_laws.proofs.Trying.{Refused, Accepted, tried}

pub record Closed (P : Machine → Machine → Type 0) : Type 0 where
  pub same : (m : Machine) → P m m
  pub then : (m v w : Machine) → P m v → P v w → P m w
  pub told : (x : RecordKind) (m : Machine) → P m (tell x m)
  pub marked : (i : ℕ) (st : OrderState) (m : Machine) → P m (mark i st m)
  pub occupied : (k : ℕ) (m : Machine) → P m (with_network m (occupied k m.network))
  pub freed : (k : ℕ) (m : Machine) → P m (free_bench k m)
  pub closing : (k j : ℕ) (m : Machine) → stays_open k j m.network ≡ false → P m (with_network m (closed-net k j m.network))
  pub event_put : (x : Event) (m : Machine) → m.instant ≤ x.time → eqb m.events.state.next m.events.bounds.stamps ≡ false → P m (with_events m (listed m.events (put_after event_le m.events.state 0 x (Ok m.events.state.next))))
  pub event_cancelled : (k : ℕ) (m : Machine) → P m (cancel_event k m)
  pub line_put : (q : ℕ) (x : LineEntry) (m : Machine) → leb 32 q ≡ false → P m (with_lines m (listed m.lines (put_after line_le m.lines.state q x (Ok m.lines.state.next))))
  pub line_taken : (k : ℕ) (m : Machine) → P m (take_line k m)
  pub line_cancelled : (k : ℕ) (m : Machine) → P m (cancel_line k m)
  pub line_melded : (j k : ℕ) (m : Machine) → P m (meld_lines j k m)
  pub cut : (c : Option ℕ) (m : Machine) → P m (with_cut m c)
  pub failed : (f : Refusal) (s : StoreName) (m : Machine) → P m (fail f s m)

module _ (P : Machine → Machine → Type 0) (closed : Closed P) where
  pub put_event_walks : (x : Machine → Event) (then : Continuation) → ((m : Machine) → m.instant ≤ (x m).time) → ((o : Result ℕ Refusal) (v : Machine) → P v (then o v)) → (m : Machine) → P m (put_event x then m)
  put_event_walks x then late h m = go (tried event_le m.cut m.events 0 (x m))
    where
      go : Refused event_le m.cut m.events 0 (x m) ⊎ Accepted event_le m.cut m.events 0 (x m) → P m (put_event x then m)
      go (inl p) = subst (λ t. P m (event_tried then m t)) (sym p.is) (closed.then m (with_cut m p.cut) _ (closed.cut p.cut m) (h (Err p.refusal) _))
      go (inr p) =
          let u = with_events m (listed m.events (put_after event_le m.events.state 0 (x m) (Ok m.events.state.next))) in
          subst (λ t. P m (event_tried then m t)) (sym p.is) (closed.then m (with_cut u p.cut) _ (closed.then m u _ (closed.event_put (x m) m (late m) p.stamp) (closed.cut p.cut u)) (h (Ok m.events.state.next) _))

  pub put_line_walks : (q : ℕ) (x : Machine → LineEntry) (then : Continuation) → ((o : Result ℕ Refusal) (v : Machine) → P v (then o v)) → (m : Machine) → P m (put_line q x then m)
  put_line_walks q x then h m = go (tried line_le m.cut m.lines q (x m))
    where
      go : Refused line_le m.cut m.lines q (x m) ⊎ Accepted line_le m.cut m.lines q (x m) → P m (put_line q x then m)
      go (inl p) = subst (λ t. P m (line_tried then m t)) (sym p.is) (closed.then m (with_cut m p.cut) _ (closed.cut p.cut m) (h (Err p.refusal) _))
      go (inr p) =
          let u = with_lines m (listed m.lines (put_after line_le m.lines.state q (x m) (Ok m.lines.state.next))) in
          subst (λ t. P m (line_tried then m t)) (sym p.is) (closed.then m (with_cut u p.cut) _ (closed.then m u _ (closed.line_put q (x m) m p.queue) (closed.cut p.cut u)) (h (Ok m.lines.state.next) _))

  pub strand_walks : (i : ℕ) (m : Machine) → P m (strand i m)
  strand_walks i m = closed.marked i Stranded m

  pub started_walks : (i k : ℕ) (o : Result ℕ Refusal) (m : Machine) → P m (started i k o m)
  started_walks i k (Ok n) m = closed.then m _ _ (closed.then m (mark i (InService k n) m) _ (closed.marked i (InService k n) m) (closed.occupied k _)) (closed.told _ _)
  started_walks i k (Err f) m = closed.then m _ _ (closed.failed f _ m) (strand_walks i _)

  pub start_walks : (i k : ℕ) (m : Machine) → P m (start i k m)
  start_walks i k m = put_event_walks (finish_event i k) (started i k) (λ v. omega arith) (started_walks i k) m

  pub away_walks : (b : Bool) (i k : ℕ) (f : Refusal) (m : Machine) → P m (turned_away b i k f m)
  away_walks true i k f m = closed.then m _ _ (closed.marked i is-away m) (closed.told _ _)
  away_walks false i k f m = closed.then m _ _ (closed.failed f _ m) (strand_walks i _)

  pub waited_walks : (i k : ℕ) (o : Result ℕ Refusal) (m : Machine) → P m (waited i k o m)
  waited_walks i k (Ok n) m = closed.then m _ _ (closed.marked i (Waiting n) m) (closed.told _ _)
  waited_walks i k (Err f) m = away_walks (at_limit f) i k f m

  pub wait_walks : (i k : ℕ) (m : Machine) → P m (wait i k m)
  wait_walks i k m = put_line_walks k (its_entry i) (waited i k) (waited_walks i k) m

  pub enter_walks : (i k : ℕ) (m : Machine) → P m (enter i k m)
  enter_walks i k m = go (has_free m.network (open_station m.network k)) (open_station m.network k)
    where
      go : (b : Bool) (r : ℕ) → P m (enter_by b i r m)
      go true r = start_walks i r m
      go false r = wait_walks i r m

  pub front_walks : (k : ℕ) (m : Machine) → P m (start_front k m)
  front_walks k m = go (line m k)
    where
      go : (o : Option (Entry LineEntry)) → P m (start_by o k m)
      go None = closed.same m
      go (Some e) = closed.then m _ _ (closed.line_taken k m) (start_walks e.element.order k (take_line k m))

  pub leave_walks : (i k : ℕ) (m : Machine) → P m (leave i k m)
  leave_walks i k m = go (station m.network k).next
    where
      go : (o : Option ℕ) → P m (leave_by o i m)
      go None = closed.then m _ _ (closed.marked i is-done m) (closed.told _ _)
      go (Some j) = enter_walks i j m

  pub release_walks : (i k : ℕ) (m : Machine) → P m (release i k m)
  release_walks i k m = closed.then m _ _ (closed.then m _ _ (closed.told _ m) (closed.freed k _)) (front_walks k _)

  pub both_walk : (ends : Machine → Bool) (f g h : Machine → Machine) → ((m : Machine) → P m (f m)) → ((m : Machine) → P m (g m)) → ((m : Machine) → P m (h m)) → (m : Machine) → P m (seq_by ends f g h m)
  both_walk ends f g h pf pg ph m = closed.then m (f m) _ (pf m) (go (ends (f m)))
    where
      go : (b : Bool) → P (f m) (branch b g h (f m))
      go false = pg (f m)
      go true = ph (f m)

  pub finish_walks : (i k : ℕ) (m : Machine) → P m (finish i k m)
  finish_walks i k m = both_walk halted (release i k) (leave i k) (strand i) (release_walks i k) (leave_walks i k) (strand_walks i) m

  pub withdraw_walks : (i : ℕ) (m : Machine) → P m (withdraw i m)
  withdraw_walks i m = go (order m.network i).state
    where
      go : (st : OrderState) → P m (withdraw_by st i m)
      go NotYet = closed.told _ m
      go (Waiting s) = closed.then m _ _ (closed.then m _ _ (closed.line_cancelled s m) (closed.marked i is-withdrawn (cancel_line s m))) (closed.told _ _)
      go (InService k s) =
          let a = cancel_event s m in
          let b = mark i is-withdrawn a in
          let d = free_bench k b in
          closed.then m _ _ (closed.then m d _ (closed.then m b d (closed.then m a b (closed.event_cancelled s m) (closed.marked i is-withdrawn a)) (closed.freed k b)) (closed.told _ d)) (front_walks k _)
      go is-done = closed.told _ m
      go is-away = closed.told _ m
      go is-withdrawn = closed.told _ m
      go Stranded = closed.told _ m

  pub fill_one_walks : (j : ℕ) (m : Machine) → P m (fill_one j m)
  fill_one_walks j m = go (has_free m.network j)
    where
      go : (b : Bool) → P m (fill_by b j m)
      go true = front_walks j m
      go false = closed.same m

  pub fill_walks : (n j : ℕ) (m : Machine) → P m (fill n j m)
  fill_walks zero j m = closed.same m
  fill_walks (suc n) j m = both_walk halted (fill n j) (fill_one j) as_is (fill_walks n j) (fill_one_walks j) closed.same m

  pub close_walks : (k j : ℕ) (m : Machine) → P m (close k j m)
  close_walks k j m = go (stays_open k j m.network) refl
    where
      go : (b : Bool) → stays_open k j m.network ≡ b → P m (close_by b k j m)
      go true e = closed.told _ m
      go false e =
          let a = with_network m (closed-net k j m.network) in
          closed.then m _ _ (closed.then m _ _ (closed.then m a _ (closed.closing k j m e) (closed.line_melded j k a)) (closed.told _ _)) (fill_walks 8 j (close_into k j m))

  pub react_walks : (x : EventKind) (m : Machine) → P m (react x m)
  react_walks (Arrive i k) m = enter_walks i k m
  react_walks (Finishing i k) m = finish_walks i k m
  react_walks (Withdraw i) m = withdraw_walks i m
  react_walks (Closing k j) m = close_walks k j m
