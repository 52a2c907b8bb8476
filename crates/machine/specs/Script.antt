-- A script, from its bytes to the trace that is printed.
use Rattle.std.specs.Prelude.{ℕ, ◌+◌, Bool, true, false, List, [], ◌∷◌, ◌++◌, length, replicate, Some, None, Option, ◌==◌, nat_lt, slice_set}
use Rattle.stores.specs.Refusals.{height_of}
use Rattle.machine.specs.declared.forms.Form.{Form}
use Rattle.machine.specs.declared.forms.Form.TheVariants.{Station, Order, Withdraw, Close, End}
use Rattle.machine.specs.declared.forms.FormRefusal.{FormRefusal}
use Rattle.machine.specs.declared.forms.FormRefusal.TheVariants.{OutOfRange, OutOfPlace, Undeclared, Store as store-refused}
use Rattle.machine.specs.declared.forms.ScriptRefusal.{ScriptRefusal}
use Rattle.machine.specs.declared.forms.ScriptRefusal.TheVariants.{TooLong, Malformed, Form as form-refused}
use Rattle.machine.specs.declared.records.Fault.{Fault}
use Rattle.machine.specs.Machine.{Bounds, Machine, start_machine, refuse}
use Rattle.machine.specs.Step.{steps}
use Rattle.machine.specs.Forms.{form, form_number, in_range}
use Rattle.machine.specs.Closing.{totals}
use Rattle.machine.specs.Text.{record_lines, end_line, fault_line, refused_line}
use Rattle.machine.specs.Reading.{read_form}

-- the number of each refusal, and the height that is told with a store's
abbrev pub script_number : ScriptRefusal → ℕ
script_number TooLong = 3
script_number Malformed = 4
script_number (form-refused f) = form_number f

abbrev pub form_layer : FormRefusal → Option ℕ
form_layer OutOfRange = None
form_layer OutOfPlace = None
form_layer Undeclared = None
form_layer (store-refused f) = Some (height_of f)

abbrev pub script_layer : ScriptRefusal → Option ℕ
script_layer TooLong = None
script_layer Malformed = None
script_layer (form-refused f) = form_layer f

-- Lines end with the byte 10, which the last may lack.

-- one byte more in front of the first line
abbrev pub first_longer : ℕ → List (List ℕ) → List (List ℕ)
first_longer b [] = (b ∷ []) ∷ []
first_longer b (l ∷ ls) = (b ∷ l) ∷ ls

abbrev pub script_lines : List ℕ → List (List ℕ)
script_lines [] = []
script_lines (b ∷ bs) = elim (b == 10) [ true ↦ [] ∷ script_lines bs | false ↦ first_longer b (script_lines bs) ]

-- Reading stops at the first refusal. The lines are counted from 1.

abbrev pub line_by : Bool → Option Form → Machine → Machine
line_by true f m = refuse TooLong m
line_by false None m = refuse Malformed m
line_by false (Some f) m = form f m

abbrev pub read_line : List ℕ → Machine → Machine
read_line l m = line_by (nat_lt 120 (length l)) (read_form l) m

-- a missing end is out of place
abbrev pub needs_end_by : Option ℕ → Machine → Machine
needs_end_by None m = refuse (form-refused OutOfPlace) m
needs_end_by (Some t) m = m

abbrev pub needs_end : Machine → Machine
needs_end m = needs_end_by m.end m

-- what is left when reading stops, and the number of the line there: of the refused one, or of the one after the last
abbrev pub read_lines : ℕ → List (List ℕ) → Machine → Machine × ℕ
read_lines l [] m = (needs_end m, l)
read_lines l (x ∷ xs) m = elim (read_line x m).refusal [ None ↦ read_lines (l + 1) xs (read_line x m) | Some r ↦ (read_line x m, l) ]

-- a script that is too long is told as line 0
abbrev pub read_by : Bool → List ℕ → Machine → Machine × ℕ
read_by true bs m = (refuse TooLong m, 0)
read_by false bs m = read_lines 1 (script_lines bs) m

abbrev pub read_script : List ℕ → Machine → Machine × ℕ
read_script bs m = read_by (nat_lt 65536 (length bs)) bs m

-- Then the run, unless the script was refused. Each step takes an entry from the event store, which gives out so many
-- stamps, so that as many steps are enough.

abbrev pub run_by : Option ScriptRefusal → Machine → Machine
run_by None m = steps m.events.bounds.stamps m
run_by (Some r) m = m

abbrev pub run : Machine → Machine
run m = run_by m.refusal m

abbrev pub perform : List ℕ → Machine → Machine × ℕ
perform bs m = (run (read_script bs m).0, (read_script bs m).1)

-- The trace: the records and the closing line, or only that the script was refused.

abbrev pub end_text : Option ℕ → Machine → List ℕ
end_text None m = []
end_text (Some t) m = end_line t (totals m.network)

abbrev pub closing_by : Option Fault → Machine → List ℕ
closing_by None m = end_text m.end m
closing_by (Some f) m = fault_line f

abbrev pub closing_line : Machine → List ℕ
closing_line m = closing_by m.fault m

abbrev pub text_by : Option ScriptRefusal → ℕ → Machine → List ℕ
text_by None l m = record_lines m.records ++ closing_line m
text_by (Some r) l m = refused_line (script_number r) l (script_layer r)

abbrev pub text : Machine × ℕ → List ℕ
text r = text_by r.0.refusal r.1 r.0

-- what is printed of a script, over stores with these limits and stamps, by a machine that is stopped there or not
abbrev pub trace : Bounds → Bounds → Option ℕ → List ℕ → List ℕ
trace events lines c bs = text (perform bs (start_machine events lines c))

-- The limits of the order store: each station's own for its line, 65,535 elsewhere.

abbrev pub limit_by : Bool → ℕ → ℕ → List ℕ → List ℕ
limit_by true k w ls = slice_set ls k w
limit_by false k w ls = ls

abbrev pub limit_of : Option Form → List ℕ → List ℕ
limit_of None ls = ls
limit_of (Some (Station k b d w n)) ls = limit_by (in_range (Station k b d w n)) k w ls
limit_of (Some (Order i t u v k)) ls = ls
limit_of (Some (Withdraw i t)) ls = ls
limit_of (Some (Close k t j)) ls = ls
limit_of (Some (End t)) ls = ls

abbrev pub limits_in : List (List ℕ) → List ℕ → List ℕ
limits_in [] ls = ls
limits_in (x ∷ xs) ls = limits_in xs (limit_of (read_form x) ls)

abbrev pub script_limits : List ℕ → List ℕ
script_limits bs = limits_in (script_lines bs) (replicate 32 65535)
