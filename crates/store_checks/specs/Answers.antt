-- What each call answers a store that stands for m, as one kind of value.
use Rattle.std.specs.Prelude.{ℕ, Some, None, Ok, Err, Option, Result}
use Rattle.elements.specs.declared.entries.Entry.{Entry}
use Rattle.elements.specs.declared.lines.LineEntry.{LineEntry}
use Rattle.stores.specs.declared.refusals.Refusal.{Refusal}
use Rattle.stores.specs.Meaning.{Meaning}
use Rattle.stores.specs.Refusals.{number_of, height_of}
use Rattle.stores.specs.Calls.{put_answer, first_answer, meld_answer, count_answer, cancel_answer}
use Rattle.store_checks.specs.declared.calls.Call.{Call}
use Rattle.store_checks.specs.declared.calls.Call.TheVariants.{Put, First, Take, Meld, Count, Cancel, Issued}
use Rattle.store_checks.specs.declared.calls.Answer.{Answer}
use Rattle.store_checks.specs.declared.calls.Answer.TheVariants.{Number, Order, Nobody, Refused}

abbrev pub numbered : Result ℕ Refusal → Answer
numbered (Ok n) = Number n
numbered (Err f) = Refused (number_of f) (height_of f)

abbrev pub fronted : Result (Option (Entry LineEntry)) Refusal → Answer
fronted (Ok (Some e)) = Order e.element.order
fronted (Ok None) = Nobody
fronted (Err f) = Refused (number_of f) (height_of f)

abbrev pub answer_to : Meaning LineEntry → Call → Answer
answer_to m (Put q x u) = numbered (put_answer m q)
answer_to m (First q) = fronted (first_answer m.state q)
answer_to m (Take q) = fronted (first_answer m.state q)
answer_to m (Meld a b) = numbered (meld_answer m.state a b)
answer_to m (Count q) = numbered (count_answer m.state q)
answer_to m (Cancel k) = numbered (cancel_answer m k)
answer_to m Issued = Number m.state.next
