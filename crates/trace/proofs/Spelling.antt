-- Each line of a trace is what its template writes.
use Rattle.std.proofs.Common.{◌≡◌, ℕ, ◌+◌, ◌*◌, ◌≤◌, ◌⊎◌, inl, inr, List, [], ◌∷◌, ◌++◌, map, length, Some, None, codes, decimal, Option, refl, sym, ap, ◌∙◌, append_assoc, arith, take-append-drop}
use Rattle.scanner.specs.Templates.{fill}
use Rattle.stores.specs.Refusals.{number_of, height_of}
use Rattle.machine.specs.declared.records.RecordKind.{RecordKind}
use Rattle.machine.specs.declared.records.RecordKind.TheVariants.{Start, Wait, Away, Withdrawn, Missed, Finish, Done, Close, Kept}
use Rattle.machine.specs.declared.records.Record.{Record}
use Rattle.machine.specs.declared.records.StoreName.{StoreName}
use Rattle.machine.specs.declared.records.StoreName.TheVariants.{Events, Orders}
use Rattle.machine.specs.declared.records.Fault.{Fault}
use Rattle.machine.specs.declared.records.Totals.{Totals}
use Rattle.machine.specs.Closing.{inside}
use Rattle.machine.specs.Lent.{line_bytes}
use Rattle.machine.specs.Text.{record_line, end_line, fault_line, refused_line}
use Rattle.trace.specs.Lines.{Written}
use Rattle.trace.specs.Puts.{Put}
use Rattle.trace.specs.Records.{record_template, fault_template}

-- records: the numbers for the gaps
abbrev pub record_numbers : ℕ → RecordKind → List ℕ
record_numbers t (Start i k) = t ∷ i ∷ k ∷ []
record_numbers t (Wait i k) = t ∷ i ∷ k ∷ []
record_numbers t (Away i k) = t ∷ i ∷ k ∷ []
record_numbers t (Withdrawn i) = t ∷ i ∷ []
record_numbers t (Missed i) = t ∷ i ∷ []
record_numbers t (Finish i k) = t ∷ i ∷ k ∷ []
record_numbers t (Done i) = t ∷ i ∷ []
record_numbers t (Close k j n) = t ∷ k ∷ j ∷ n ∷ []
record_numbers t (Kept k j) = t ∷ k ∷ j ∷ []

-- which numbers they are, where kinds of records are told alike
pub with_station : (t i s : ℕ) (k : RecordKind) → (k ≡ Start i s) ⊎ ((k ≡ Wait i s) ⊎ ((k ≡ Away i s) ⊎ (k ≡ Finish i s))) → t ∷ i ∷ s ∷ [] ≡ record_numbers t k
with_station t i s k (inl e) = ap (record_numbers t) (sym e)
with_station t i s k (inr (inl e)) = ap (record_numbers t) (sym e)
with_station t i s k (inr (inr (inl e))) = ap (record_numbers t) (sym e)
with_station t i s k (inr (inr (inr e))) = ap (record_numbers t) (sym e)

pub of_order : (t i : ℕ) (k : RecordKind) → (k ≡ Withdrawn i) ⊎ ((k ≡ Missed i) ⊎ (k ≡ Done i)) → t ∷ i ∷ [] ≡ record_numbers t k
of_order t i k (inl e) = ap (record_numbers t) (sym e)
of_order t i k (inr (inl e)) = ap (record_numbers t) (sym e)
of_order t i k (inr (inr e)) = ap (record_numbers t) (sym e)

record_filled : (t : ℕ) (k : RecordKind) → fill (record_template k) (map decimal (record_numbers t k)) ≡ record_line (record { at = t; kind = k })
record_filled t (Start i k) = sym (simp append_assoc)
record_filled t (Wait i k) = sym (simp append_assoc)
record_filled t (Away i k) = sym (simp append_assoc)
record_filled t (Withdrawn i) = sym (simp append_assoc)
record_filled t (Missed i) = sym (simp append_assoc)
record_filled t (Finish i k) = sym (simp append_assoc)
record_filled t (Done i) = sym (simp append_assoc)
record_filled t (Close k j n) = sym (simp append_assoc)
record_filled t (Kept k j) = sym (simp append_assoc)

record_room : (t : ℕ) (k : RecordKind) → length (record_template k) + 9 * length (record_numbers t k) ≤ line_bytes
record_room t (Start i k) = omega arith
record_room t (Wait i k) = omega arith
record_room t (Away i k) = omega arith
record_room t (Withdrawn i) = omega arith
record_room t (Missed i) = omega arith
record_room t (Finish i k) = omega arith
record_room t (Done i) = omega arith
record_room t (Close k j n) = omega arith
record_room t (Kept k j) = omega arith

-- the end
abbrev pub end_template : List ℕ
end_template = codes "(end # (done #) (away #) (withdrawn #) (inside #))\n"

abbrev pub end_numbers : ℕ → Totals → List ℕ
end_numbers t x = t ∷ x.done ∷ x.away ∷ x.withdrawn ∷ inside x ∷ []

end_filled : (t : ℕ) (x : Totals) → fill end_template (map decimal (end_numbers t x)) ≡ end_line t x
end_filled t x = sym (simp append_assoc)

-- a fault
abbrev pub fault_numbers : Fault → List ℕ
fault_numbers f = f.instant ∷ number_of f.refusal ∷ height_of f.refusal ∷ []

fault_filled : (f : Fault) (s : StoreName) → f.store ≡ s → fill (fault_template s) (map decimal (fault_numbers f)) ≡ fault_line f
fault_filled f Events e = sym (simp (e, append_assoc))
fault_filled f Orders e = sym (simp (e, append_assoc))

fault_room : (s : StoreName) (f : Fault) → length (fault_template s) + 9 * length (fault_numbers f) ≤ line_bytes
fault_room Events f = omega arith
fault_room Orders f = omega arith

-- a refused script
abbrev refused_template : Option ℕ → List ℕ
refused_template None = codes "(refused # (line #))\n"
refused_template (Some h) = codes "(refused # (line #) (layer #))\n"

abbrev refused_numbers : ℕ → ℕ → Option ℕ → List ℕ
refused_numbers m l None = m ∷ l ∷ []
refused_numbers m l (Some h) = m ∷ l ∷ h ∷ []

refused_filled : (m l : ℕ) (o : Option ℕ) → fill (refused_template o) (map decimal (refused_numbers m l o)) ≡ refused_line m l o
refused_filled m l None = sym (simp append_assoc)
refused_filled m l (Some h) = sym (simp append_assoc)

refused_room : (m l : ℕ) (o : Option ℕ) → length (refused_template o) + 9 * length (refused_numbers m l o) ≤ line_bytes
refused_room m l None = omega arith
refused_room m l (Some h) = omega arith

-- a filled template that is some text, and that has room, is that text written
module _ (before after : List ℕ) (n : ℕ) where
  abbrev Filled : List ℕ → List ℕ → Type 0
  Filled t ns = Put before 0 (fill t (map decimal ns)) after n

  is_written : (t ns text : List ℕ) → fill t (map decimal ns) ≡ text → length t + 9 * length ns ≤ line_bytes → n ≤ length t + 9 * length ns → Filled t ns → Written text before after n
  is_written t ns text e room fits p = record {
    count = p.place ∙ omega (arith, ap length e);
    fits = omega arith;
    bytes = sym (take-append-drop n after) ∙ (λ j. (p.front ∙ e) j ++ p.back j);
  }

  pub record_written : (r : Record) (t ns : List ℕ) → t ≡ record_template r.kind → ns ≡ record_numbers r.at r.kind → n ≤ length t + 9 * length ns → Filled t ns → Written (record_line r) before after n
  record_written r t ns p q = is_written t ns (record_line r) ((λ j. fill (p j) (map decimal (q j))) ∙ record_filled r.at r.kind) (omega (arith, ap length p, ap length q, record_room r.at r.kind))

  pub end_written : (t : ℕ) (x : Totals) (ns : List ℕ) → ns ≡ end_numbers t x → n ≤ length end_template + 9 * length ns → Filled end_template ns → Written (end_line t x) before after n
  end_written t x ns q = is_written end_template ns (end_line t x) (ap (λ ms. fill end_template (map decimal ms)) q ∙ end_filled t x) (omega (arith, ap length q))

  pub fault_written : (f : Fault) (t ns : List ℕ) → t ≡ fault_template f.store → ns ≡ fault_numbers f → n ≤ length t + 9 * length ns → Filled t ns → Written (fault_line f) before after n
  fault_written f t ns p q = is_written t ns (fault_line f) ((λ j. fill (p j) (map decimal (q j))) ∙ fault_filled f f.store refl) (omega (arith, ap length p, ap length q, fault_room f.store f))

  pub refused_written : (m k l : ℕ) (o p : Option ℕ) → k ≡ m → p ≡ o → n ≤ length (refused_template p) + 9 * length (refused_numbers k l p) → Filled (refused_template p) (refused_numbers k l p) → Written (refused_line m l o) before after n
  refused_written m k l o p e f = is_written (refused_template p) (refused_numbers k l p) (refused_line m l o) (refused_filled k l p ∙ (λ j. refused_line (e j) l (f j))) (refused_room k l p)
