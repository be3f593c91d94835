-- From a verdict to the status of a check.
use Rattle.std.proofs.Common.{◌≡◌, ℕ, List, subst}
use Rattle.std.specs.Prelude.{Ok}
use Rattle.std.specs.Bool.{Decides}
use Rattle.ix_check.specs.declared.verdict.Verdict.{Verdict}
use Rattle.ix_check.specs.declared.verdict.Verdict.TheVariants.{Yes, No}
use Rattle.ix_check.specs.Verdict.{Fit, IsVerdict, is_yes}
use Rattle.ix_top.specs.Check.{Checks, GivenFiles, status_of}
use Rattle.ix_top.specs.Top.{AreFiles, Inputs, play_meaning}

-- on files that were read
verdict-of-files : (v : Verdict) (i : Inputs) (f : GivenFiles) → play_meaning f.inputs ≡ Ok i → Decides (is_yes v) (Fit i.settings i.frames i.entries f.replies f.trace)
    → IsVerdict i.settings i.frames i.entries f.replies f.trace v → Checks (status_of v) f
verdict-of-files Yes i f meaning decides is =
    record { inputs = i; meaning = meaning; files = record { report = is.report; value = is.value; fits = is.fits; trace_is = is.text } }
verdict-of-files (No finding) i f meaning decides is = record {
  inputs = i;
  meaning = meaning;
  found = is;
  never = λ (files : AreFiles i f.replies f.trace). absurd (cc (decides.1 (record { report = files.report; value = files.value; text = files.trace_is; fits = files.fits })));
}

pub verdict-checks : (v : Verdict) (i : Inputs) (f : GivenFiles) (replies trace : List ℕ) → play_meaning f.inputs ≡ Ok i → replies ≡ f.replies → trace ≡ f.trace
    → Decides (is_yes v) (Fit i.settings i.frames i.entries replies trace) → IsVerdict i.settings i.frames i.entries replies trace v → Checks (status_of v) f
verdict-checks v i f replies trace meaning r t decides is =
    verdict-of-files v i f meaning
    (subst (λ (l : List ℕ). Decides (is_yes v) (Fit i.settings i.frames i.entries f.replies l)) t (subst (λ (l : List ℕ). Decides (is_yes v) (Fit i.settings i.frames i.entries l trace)) r decides))
    (subst (λ (l : List ℕ). IsVerdict i.settings i.frames i.entries f.replies l v) t (subst (λ (l : List ℕ). IsVerdict i.settings i.frames i.entries l trace v) r is))
