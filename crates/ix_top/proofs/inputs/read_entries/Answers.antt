use Rattle.std.proofs.Common.{List, map, ℕ, sym, ◌∙◌, subst, arith}
use Rattle.std.proofs.lemmas.Grind.{common_steps}
use Rattle.std.proofs.lemmas.Result.{IfOk-weaker, IfErr-weaker}
use Rattle.std.specs.Prelude.{Result, Err}
use Rattle.ix_top.specs.declared.status.Status.{Status}
use Rattle.ix_top.specs.declared.status.Status.TheVariants.{Script}
use Rattle.ix_top.specs.declared.status.ScriptRefusal.TheVariants.{TooBig}
use Rattle.ix_conf.specs.Settings.{settings_of}
use Rattle.ix_script.specs.Script.{script_of}
use Rattle.ix_wire.specs.declared.entry.Entry.{Entry}
use Rattle.ix_playdef.specs.Own.{own_frame}
use Rattle.ix_top.specs.Top.{entries_read, Refuses}
use Rattle.ix_top.proofs.Meanings.{input-whole}
use Rattle.ix_top.proofs.inputs.read_entries.Goals as goal

-- the bytes read are all that there were
pub returns-clause-ok : goal.returns-clause-ok
returns-clause-ok g c =
    IfOk-weaker c.parse_entries.result _ _ (λ x read all left.
    input-whole 8388608 (Err (Script TooBig)) (λ (b : List ℕ). entries_read (script_of (settings_of c.args.conf.now) (map (own_frame c.args.conf.now.mac) c.args.records.now) b)) _ c.deref.result.now all (grind (arith, common_steps)) (sym left ∙ (rw c.deref.ensures.value c.in-Ok.ensures.bytes.taken)) (c.in-Ok.ensures.end (grind (arith, common_steps))) ∙ read)
    c.parse_entries.ensures.ok

pub returns-clause-err : goal.returns-clause-err
returns-clause-err g c =
    IfErr-weaker c.parse_entries.result _ _ (λ e refused all left.
    subst (λ (m : Result (List Entry) Status). Refuses e m)
    (sym (input-whole 8388608 (Err (Script TooBig)) (λ (b : List ℕ). entries_read (script_of (settings_of c.args.conf.now) (map (own_frame c.args.conf.now.mac) c.args.records.now) b)) _ c.deref.result.now all (grind (arith, common_steps)) (sym left ∙ (rw c.deref.ensures.value c.in-Ok.ensures.bytes.taken)) (c.in-Ok.ensures.end (grind (arith, common_steps))))) refused)
    c.parse_entries.ensures.err
