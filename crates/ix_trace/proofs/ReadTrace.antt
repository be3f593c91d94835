-- What the exact answer means.
use Rattle.std.proofs.Common.{◌≡◌, ℕ, List, ap, sym, ◌∙◌, Result, Ok, Err}
use Rattle.std.specs.Prelude.{IfOk, IfErr}
use Rattle.ix_trace.specs.declared.reader.TraceFault.{TraceFault}
use Rattle.ix_trace.specs.declared.reader.TraceFault.TheVariants as faults
use Rattle.ix_trace.specs.declared.sheet.Sheet.{Sheet}
use Rattle.ix_trace.specs.Reading.{trace_read, Gives, IsNumber}
use Rattle.ix_trace.specs.Rule.{IsValue, report_text}
use Rattle.ix_trace.proofs.Exact.{AreExact}
use Rattle.ix_trace.proofs.TextLaws.{trace_again, trace_found, one_text}
use Rattle.ix_trace.proofs.TextRule.{trace_fault}

pub value : AreExact → (bytes : List ℕ) (s : Sheet) → trace_read bytes ≡ Ok s → IsValue s
value exact bytes s e = let f = trace_found exact bytes s e in record { report = f.0; fits = f.1 }

pub found : AreExact → (bytes : List ℕ) (r : Result Sheet TraceFault) → Gives r (trace_read bytes) → IfOk r (λ s. bytes ≡ report_text s)
found exact bytes (Ok s) e = let f = trace_found exact bytes s e in f.2
found exact bytes (Err f) e = tt

pub only : AreExact → (bytes : List ℕ) (r : Result Sheet TraceFault) → Gives r (trace_read bytes) → (s : Sheet) → IsValue s → bytes ≡ report_text s → Gives r (Ok s)
only exact bytes (Ok r) e s v is = sym (ap trace_read is ∙ trace_again exact s v.report v.fits) ∙ e
only exact bytes (Err (faults.Line n)) e s v is = sym (ap trace_read is ∙ trace_again exact s v.report v.fits) ∙ e
only exact bytes (Err faults.NoMemory) e s v is = tt

pub line : AreExact → (bytes : List ℕ) (r : Result Sheet TraceFault) → Gives r (trace_read bytes) → IfErr r (λ f. IsNumber bytes f)
line exact bytes (Ok r) e = tt
line exact bytes (Err (faults.Line n)) e = trace_fault exact bytes n e
line exact bytes (Err faults.NoMemory) e = tt

pub one : AreExact → (r s : Sheet) → IsValue r → IsValue s → report_text r ≡ report_text s → r ≡ s
one exact r s v w e = one_text exact r s v.report v.fits w.report w.fits e
