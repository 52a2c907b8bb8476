-- What is reported, a way at a time, where `bytes` are those of a text that was made.
use Rattle.std.proofs.Common.{◌≡◌, ℕ, List, length, IfOk, Ok, Err, Result, sym, refl, ap, ◌∙◌, subst, MatchResult}
use Rattle.std.proofs.lemmas.Result.{IfOk-weaker, MatchResult-weaker}
use Rattle.elements.specs.declared.lines.LineEntry.{LineEntry}
use Rattle.elements.specs.Elements.{line_le}
use Rattle.stores.specs.Meaning.{Meaning}
use Rattle.waiting_orders.specs.declared.ReadFailure.{ReadFailure}
use Rattle.waiting_orders.specs.declared.ReadFailure.TheVariants.{Line, NoMemory}
use Rattle.scanner.specs.Lines.{lines_of}
use Rattle.waiting_orders.specs.Lines.{Listed, Unlisted}
use Rattle.dispatch.specs.declared.Failure.{Failure}
use Rattle.dispatch.specs.declared.Failure.TheVariants.{Refused, NoMemory}
use Rattle.dispatch.specs.Service.{service_order}
use Rattle.dispatch.specs.Dispatching.{Dispatched, Failed, Enough, Hindered}
use Rattle.service_reports.specs.Texts.{service_text}
use Rattle.service_reports.specs.Reports.{Unread, Unserved, Told, Untold, Shown, Reported, Unreported, Printed}

-- what was made keeps P, and q holds where nothing was made
or_else : {S E : Type 0} (r : Result S E) (P P' : S → Type 0) (Q : Type 0) → ((s : S) → P s → P' s) → Q → IfOk r P → MatchResult r P' (λ _. Q)
or_else (Ok s) P P' Q f q h = f s h
or_else (Err e) P P' Q f q h = q

module _ {S E : Type 0} (bytes : S → List ℕ) (r : Result S E) where
  -- of orders
  module _ (orders : List LineEntry) where
    module _ (ys lent : List LineEntry) (Lent-is : lent ≡ ys) (said : IfOk r (λ s. bytes s ≡ service_text lent)) where
      pub told_served : (m n : Meaning LineEntry) → Dispatched line_le m orders ys n → MatchResult r (λ s. Told m orders (bytes s) n) (λ _. Untold m orders n)
      told_served m n d = or_else r _ _ _ (λ s e. Told.served ys d (e ∙ ap service_text Lent-is)) (Untold.served ys d) said

      pub shown_served : (cells stamps : ℕ) → Enough cells stamps (length orders) × (ys ≡ service_order orders) → IfOk r (λ s. Shown cells stamps orders (bytes s))
      shown_served cells stamps h = IfOk-weaker r _ _ (λ s e. Shown.served h.0 (e ∙ ap service_text (Lent-is ∙ h.1))) said

    module _ (m n : Meaning LineEntry) where
      told_failed : (e : Failure) (out : List ℕ) → Failed line_le m orders e n → Unserved e out → Told m orders out n
      told_failed (Refused e) out f u = Told.rejected e f u
      told_failed NoMemory out f u = absurd u

      pub told_unserved : (e : Failure) → Failed line_le m orders e n → IfOk r (λ s. Unserved e (bytes s)) → MatchResult r (λ s. Told m orders (bytes s) n) (λ _. Untold m orders n)
      told_unserved e f = or_else r _ _ _ (λ s. told_failed e (bytes s) f) (Untold.failed e f)

    module _ (cells stamps : ℕ) where
      shown_hindered : (e : Failure) (out : List ℕ) → Hindered cells stamps (length orders) e → Unserved e out → Shown cells stamps orders out
      shown_hindered (Refused e) out h u = Shown.rejected e h.0 h.1 u
      shown_hindered NoMemory out h u = absurd u

      pub shown_unserved : (e : Failure) → Hindered cells stamps (length orders) e → IfOk r (λ s. Unserved e (bytes s)) → IfOk r (λ s. Shown cells stamps orders (bytes s))
      shown_unserved e h = IfOk-weaker r _ _ (λ s. shown_hindered e (bytes s) h)

  -- of a text
  module _ (text : List ℕ) where
    module _ (items lent : List LineEntry) (Lent-is : lent ≡ items) (listed : Listed (lines_of text) items) where
      kept : Listed (lines_of text) lent
      kept = subst (Listed (lines_of text)) (sym Lent-is) listed

      pub reported_read : (m n : Meaning LineEntry) → MatchResult r (λ s. Told m lent (bytes s) n) (λ _. Untold m lent n) → MatchResult r (λ s. Reported m text (bytes s) n) (λ _. Unreported m text n)
      reported_read m n h = MatchResult-weaker r h (λ s t. Reported.read lent kept t) (λ _ t. Unreported.read lent kept t)

      pub printed_read : (cells stamps : ℕ) → IfOk r (λ s. Shown cells stamps lent (bytes s)) → IfOk r (λ s. Printed cells stamps text (bytes s))
      printed_read cells stamps = IfOk-weaker r _ _ (λ s t. Printed.read lent kept t)

    reported_broken : (m : Meaning LineEntry) (e : ReadFailure) (out : List ℕ) → Unlisted (lines_of text) e → Unread e out → Reported m text out m
    reported_broken m (Line line why) out b u = Reported.unread line why b u refl
    reported_broken m NoMemory out b u = absurd u

    pub reported_unread : (m : Meaning LineEntry) (e : ReadFailure) → Unlisted (lines_of text) e → IfOk r (λ s. Unread e (bytes s)) → MatchResult r (λ s. Reported m text (bytes s) m) (λ _. Unreported m text m)
    reported_unread m e b = or_else r _ _ _ (λ s. reported_broken m e (bytes s) b) (Unreported.unread refl)

    printed_broken : (cells stamps : ℕ) (e : ReadFailure) (out : List ℕ) → Unlisted (lines_of text) e → Unread e out → Printed cells stamps text out
    printed_broken cells stamps (Line line why) out b u = Printed.unread line why b u
    printed_broken cells stamps NoMemory out b u = absurd u

    pub printed_unread : (cells stamps : ℕ) (e : ReadFailure) → Unlisted (lines_of text) e → IfOk r (λ s. Unread e (bytes s)) → IfOk r (λ s. Printed cells stamps text (bytes s))
    printed_unread cells stamps e b = IfOk-weaker r _ _ (λ s. printed_broken cells stamps e (bytes s) b)
