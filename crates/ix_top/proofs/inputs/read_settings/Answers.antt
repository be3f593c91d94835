use Rattle.std.proofs.Common.{List, ℕ, sym, ◌∙◌, subst, arith}
use Rattle.std.proofs.lemmas.Grind.{common_steps}
use Rattle.std.proofs.lemmas.Result.{IfOk-weaker, IfErr-weaker}
use Rattle.std.specs.Prelude.{Result, Err}
use Rattle.ix_top.specs.declared.status.Status.{Status}
use Rattle.ix_top.specs.declared.status.Status.TheVariants.{Conf}
use Rattle.ix_top.specs.declared.status.ConfRefusal.TheVariants.{TooBig}
use Rattle.ix_conf.specs.Settings.{Settings, conf_of}
use Rattle.ix_top.specs.Top.{settings_read, Refuses}
use Rattle.ix_top.proofs.Meanings.{input-whole}
use Rattle.ix_top.proofs.inputs.read_settings.Goals as goal

-- the bytes read are all that there were
pub returns-clause-ok : goal.returns-clause-ok
returns-clause-ok g c =
    IfOk-weaker c.parse_conf.result _ _ (λ x read all left.
    input-whole 65536 (Err (Conf TooBig)) (λ (b : List ℕ). settings_read (conf_of b)) _ c.deref.result.now all (grind (arith, common_steps)) (sym left ∙ (rw c.deref.ensures.value c.in-Ok.ensures.bytes.taken)) (c.in-Ok.ensures.end (grind (arith, common_steps))) ∙ read)
    c.parse_conf.ensures.ok

pub returns-clause-err : goal.returns-clause-err
returns-clause-err g c =
    IfErr-weaker c.parse_conf.result _ _ (λ e refused all left.
    subst (λ (m : Result Settings Status). Refuses e m)
    (sym (input-whole 65536 (Err (Conf TooBig)) (λ (b : List ℕ). settings_read (conf_of b)) _ c.deref.result.now all (grind (arith, common_steps)) (sym left ∙ (rw c.deref.ensures.value c.in-Ok.ensures.bytes.taken)) (c.in-Ok.ensures.end (grind (arith, common_steps))))) refused)
    c.parse_conf.ensures.err
