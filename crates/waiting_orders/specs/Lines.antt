-- A waiting line as a text: an order to a line. The lines of a text are those of crates/scanner.
use Rattle.std.specs.Prelude.{◌≡◌, ℕ, ◌+◌, List, ◌∷◌, ◌++◌, map, length, Err}
use Rattle.std.specs.List.{AllByRecursion}
use Rattle.elements.specs.declared.lines.LineEntry.{LineEntry}
use Rattle.waiting_orders.specs.declared.Unreadable.{Unreadable}
use Rattle.waiting_orders.specs.declared.ReadFailure.{ReadFailure}
use Rattle.waiting_orders.specs.declared.ReadFailure.TheVariants.{Line, NoMemory}
use Rattle.waiting_orders.specs.Forms.{numbers_of, written, InRange, Reads}

-- each line is that of an order
pub record Listed (lines : List (List ℕ)) (orders : List LineEntry) : Type 0 where
  pub is : lines ≡ map written orders
  pub ranges : AllByRecursion (λ e. InRange (numbers_of e)) orders

-- the first line that is none, the n-th, and why
pub record Broken (lines : List (List ℕ)) (n : ℕ) (why : Unreadable) : Type 0 where
  pub before : List LineEntry
  pub line : List ℕ
  pub behind : List (List ℕ)
  pub is : lines ≡ map written before ++ line ∷ behind
  pub ranges : AllByRecursion (λ e. InRange (numbers_of e)) before
  pub number : n ≡ length before + 1
  pub unread : Reads line (Err why)

-- nothing is told of a text for which there is no memory
abbrev pub Unlisted : List (List ℕ) → ReadFailure → Type 0
Unlisted lines (Line n why) = Broken lines n why
Unlisted lines NoMemory = Unit {0}
