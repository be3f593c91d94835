use Rattle.std.proofs.Common.{List, ℕ, sym, ◌∙◌, subst, arith}
use Rattle.std.proofs.lemmas.Grind.{common_steps}
use Rattle.std.proofs.lemmas.Result.{IfOk-weaker, IfErr-weaker}
use Rattle.std.specs.Prelude.{Result, Err}
use Rattle.ix_top.specs.declared.status.Status.{Status}
use Rattle.ix_top.specs.declared.status.Status.TheVariants.{Capture}
use Rattle.ix_top.specs.declared.status.CaptureRefusal.TheVariants.{TooBig}
use Rattle.ix_pcap.specs.Capture.{capture_of}
use Rattle.ix_top.specs.Top.{frames_read, Refuses}
use Rattle.ix_top.proofs.Meanings.{input-whole}
use Rattle.ix_top.proofs.inputs.read_records.Goals as goal

-- the bytes read are all that there were
pub returns-clause-ok : goal.returns-clause-ok
returns-clause-ok g c =
    IfOk-weaker c.parse.result _ _ (λ x read all left.
    input-whole 67108864 (Err (Capture TooBig)) (λ (b : List ℕ). frames_read b (capture_of b)) _ c.from_vec.result all (grind (arith, common_steps)) (sym left ∙ (rw c.from_vec.ensures c.in-Ok.ensures.bytes.taken)) (c.in-Ok.ensures.end (grind (arith, common_steps))) ∙ read)
    c.parse.ensures.ok

pub returns-clause-err : goal.returns-clause-err
returns-clause-err g c =
    IfErr-weaker c.parse.result _ _ (λ e refused all left.
    subst (λ (m : Result (List (List ℕ)) Status). Refuses e m)
    (sym (input-whole 67108864 (Err (Capture TooBig)) (λ (b : List ℕ). frames_read b (capture_of b)) _ c.from_vec.result all (grind (arith, common_steps)) (sym left ∙ (rw c.from_vec.ensures c.in-Ok.ensures.bytes.taken)) (c.in-Ok.ensures.end (grind (arith, common_steps))))) refused)
    c.parse.ensures.err
