-- What an unused store prints is settled by the text and the store's sizes.
use Rattle.std.proofs.Common.{◌≡◌, ℕ, ◌<◌, List, length, sym, refl, ap, ◌∙◌, subst, arith}
use Rattle.elements.specs.declared.lines.LineEntry.{LineEntry}
use Rattle.stores.specs.declared.refusals.Refusal.{Refusal}
use Rattle.stores.specs.declared.refusals.Refusal.TheVariants.{QueueNumber, SameQueue, AtLimit, NoCell, NoStamp, NotQueued}
use Rattle.waiting_orders.specs.Forms.{unreadable_number}
use Rattle.scanner.specs.Lines.{lines_of}
use Rattle.waiting_orders.proofs.Listing.{listed_once, listed_not_broken, broken_once}
use Rattle.dispatch.specs.declared.Rejected.{Rejected}
use Rattle.dispatch.specs.Dispatching.{Enough, Lacks}
use Rattle.service_reports.specs.Texts.{refused_line}
use Rattle.service_reports.specs.Reports.{rejection, Shown, Printed}

-- there is one order after which cells or stamps run out, and one of the two runs out first
module _ (cells stamps : ℕ) where
  no_lack : (n k : ℕ) (r : Refusal) → Enough cells stamps n → k < n → Lacks cells stamps k r → ⊥
  no_lack n k NoCell e l h = omega (arith, e.few_cells, h.0)
  no_lack n k NoStamp e l h = omega (arith, e.few_stamps, h.0)
  no_lack n k QueueNumber e l h = h
  no_lack n k SameQueue e l h = h
  no_lack n k (AtLimit x) e l h = h
  no_lack n k (NotQueued x) e l h = h

  lacks_once : (k l : ℕ) (r s : Refusal) → Lacks cells stamps k r → Lacks cells stamps l s → (k ≡ l) × (r ≡ s)
  lacks_once k l NoCell NoCell h i = (omega (arith, h.0, i.0), refl)
  lacks_once k l NoCell NoStamp h i = absurd (omega (arith, h.0, h.1, i.0, i.1))
  lacks_once k l NoStamp NoCell h i = absurd (omega (arith, h.0, h.1, i.0, i.1))
  lacks_once k l NoStamp NoStamp h i = (omega (arith, h.0, i.0), refl)
  lacks_once k l QueueNumber s h i = absurd h
  lacks_once k l SameQueue s h i = absurd h
  lacks_once k l (AtLimit x) s h i = absurd h
  lacks_once k l (NotQueued x) s h i = absurd h
  lacks_once k l NoCell QueueNumber h i = absurd i
  lacks_once k l NoCell SameQueue h i = absurd i
  lacks_once k l NoCell (AtLimit x) h i = absurd i
  lacks_once k l NoCell (NotQueued x) h i = absurd i
  lacks_once k l NoStamp QueueNumber h i = absurd i
  lacks_once k l NoStamp SameQueue h i = absurd i
  lacks_once k l NoStamp (AtLimit x) h i = absurd i
  lacks_once k l NoStamp (NotQueued x) h i = absurd i

  same_rejected : (d e : Rejected) → Lacks cells stamps d.index d.refusal → Lacks cells stamps e.index e.refusal → d ≡ e
  same_rejected d e h i = let p = lacks_once d.index e.index d.refusal e.refusal h i in λ j. record { index = p.0 j; refusal = p.1 j }

  shown_once : (orders : List LineEntry) (o p : List ℕ) → Shown cells stamps orders o → Shown cells stamps orders p → o ≡ p
  shown_once orders o p (Shown.served _ a) (Shown.served _ b) = a ∙ sym b
  shown_once orders o p (Shown.served e a) (Shown.rejected x i h b) = absurd (no_lack (length orders) x.index x.refusal e i h)
  shown_once orders o p (Shown.rejected x i h a) (Shown.served e b) = absurd (no_lack (length orders) x.index x.refusal e i h)
  shown_once orders o p (Shown.rejected x _ h a) (Shown.rejected y _ i b) = a ∙ ap rejection (same_rejected x y h i) ∙ sym b

  pub printed_once : (text o p : List ℕ) → Printed cells stamps text o → Printed cells stamps text p → o ≡ p
  printed_once text o p (Printed.read xs l a) (Printed.read ys m b) = shown_once ys o p (subst (λ zs. Shown cells stamps zs o) (listed_once (lines_of text) xs ys l m) a) b
  printed_once text o p (Printed.read xs l a) (Printed.unread n v c b) = absurd (listed_not_broken (lines_of text) xs n v l c)
  printed_once text o p (Printed.unread n v c a) (Printed.read ys m b) = absurd (listed_not_broken (lines_of text) ys n v m c)
  printed_once text o p (Printed.unread n v c a) (Printed.unread k w d b) =
      let h = broken_once (lines_of text) n k v w c d in
      a ∙ (λ j. refused_line (unreadable_number (h.1 j)) (h.0 j)) ∙ sym b
