-- What is printed for the text of a waiting line: m is what the store means before, n after.
use Rattle.std.specs.Prelude.{◌≡◌, ℕ, ◌+◌, ◌^◌, ◌<◌, List, length, Err}
use Rattle.elements.specs.declared.lines.LineEntry.{LineEntry}
use Rattle.elements.specs.Elements.{line_le}
use Rattle.stores.specs.Meaning.{Meaning}
use Rattle.stores.specs.Refusals.{number_of, height_of}
use Rattle.waiting_orders.specs.declared.Unreadable.{Unreadable}
use Rattle.waiting_orders.specs.declared.ReadFailure.{ReadFailure}
use Rattle.waiting_orders.specs.declared.ReadFailure.TheVariants.{Line, NoMemory}
use Rattle.waiting_orders.specs.Forms.{unreadable_number}
use Rattle.scanner.specs.Lines.{lines_of}
use Rattle.waiting_orders.specs.Lines.{Listed, Broken}
use Rattle.dispatch.specs.declared.Rejected.{Rejected}
use Rattle.dispatch.specs.declared.Failure.{Failure}
use Rattle.dispatch.specs.declared.Failure.TheVariants.{Refused, NoMemory}
use Rattle.dispatch.specs.Service.{service_order}
use Rattle.dispatch.specs.Dispatching.{Admits, Dispatched, Failed, Enough, Lacks}
use Rattle.service_reports.specs.Texts.{service_text, refused_line, refused_order}

-- the line of the order that is rejected; the first order stands on line 1
abbrev pub rejection : Rejected → List ℕ
rejection e = refused_order (number_of e.refusal) (e.index + 1) (height_of e.refusal)

-- what is printed of orders, by any store: those that were dispatched, or the one that was rejected
pub data Told (m : Meaning LineEntry) (orders : List LineEntry) (out : List ℕ) (n : Meaning LineEntry) : Type 0 where
  served : (ys : List LineEntry) → Dispatched line_le m orders ys n → out ≡ service_text ys → Told m orders out n
  rejected : (e : Rejected) → Admits line_le m orders (Err e) n → out ≡ rejection e → Told m orders out n

-- what is left of it where there is no memory to print it
pub data Untold (m : Meaning LineEntry) (orders : List LineEntry) (n : Meaning LineEntry) : Type 0 where
  served : (ys : List LineEntry) → Dispatched line_le m orders ys n → Untold m orders n
  failed : (e : Failure) → Failed line_le m orders e n → Untold m orders n

-- by an unused store of these sizes: the orders in their order of service, where cells and stamps last for them
pub data Shown (cells stamps : ℕ) (orders : List LineEntry) (out : List ℕ) : Type 0 where
  served : Enough cells stamps (length orders) → out ≡ service_text (service_order orders) → Shown cells stamps orders out
  rejected : (e : Rejected) → e.index < length orders → Lacks cells stamps e.index e.refusal → out ≡ rejection e → Shown cells stamps orders out

-- what is printed of a text, by any store: of the orders that its lines tell; or a line that tells none is refused, and
-- the store is as it was
pub data Reported (m : Meaning LineEntry) (text out : List ℕ) (n : Meaning LineEntry) : Type 0 where
  read : (orders : List LineEntry) → Listed (lines_of text) orders → Told m orders out n → Reported m text out n
  unread : (line : ℕ) (why : Unreadable) → Broken (lines_of text) line why → out ≡ refused_line (unreadable_number why) line → n ≡ m → Reported m text out n

-- what is left of it where there is no memory to print it
pub data Unreported (m : Meaning LineEntry) (text : List ℕ) (n : Meaning LineEntry) : Type 0 where
  read : (orders : List LineEntry) → Listed (lines_of text) orders → Untold m orders n → Unreported m text n
  unread : n ≡ m → Unreported m text n

-- by an unused store of these sizes
pub data Printed (cells stamps : ℕ) (text out : List ℕ) : Type 0 where
  read : (orders : List LineEntry) → Listed (lines_of text) orders → Shown cells stamps orders out → Printed cells stamps text out
  unread : (line : ℕ) (why : Unreadable) → Broken (lines_of text) line why → out ≡ refused_line (unreadable_number why) line → Printed cells stamps text out

-- what is printed where a text is not read, or no order of service is told; nothing for want of memory
abbrev pub Unread : ReadFailure → List ℕ → Type 0
Unread (Line line why) out = out ≡ refused_line (unreadable_number why) line
Unread NoMemory out = ⊥

abbrev pub Unserved : Failure → List ℕ → Type 0
Unserved (Refused e) out = out ≡ rejection e
Unserved NoMemory out = ⊥

-- the number of the rejected order can be counted from 1
abbrev pub Countable : Failure → Type 0
Countable (Refused e) = e.index < 2 ^ 63
Countable NoMemory = Unit {0}
