-- A text that is pushed once.
use Rattle.std.proofs.Common.{◌≡◌, ℕ, Bool, true, false, List, [], ◌∷◌, sym, subst, ◌∙◌}
use Rattle.ix_call.specs.declared.chunk.Chunk.TheVariants as chunks
use Rattle.ix_appdef.specs.Answers.{push_answer}
use Rattle.ix_app.specs.declared.event.AppEvent.TheVariants as events
use Rattle.ix_app.specs.Handing.{HandedOn, Answered, sent}
use Rattle.ix_app.specs.HandingLaws.{quiet, answers_up, drop-front}

-- It is written already.
pub again : (text : List ℕ) (up : Bool) (told : List ℕ) (o : HandedOn) → up ≡ true → Answered false events.Up (push_answer text up told) (push_answer text true told) o o
again text up told o e = subst (λ (u : Bool). Answered false events.Up (push_answer text u told) (push_answer text true told) o o) (sym e) (quiet false events.Up text o tt)

-- It is written now.
pub once : (text bytes : List ℕ) (up : Bool) (told : List ℕ) (old new : HandedOn) → up ≡ false → bytes ≡ text → new ≡ sent (chunks.Own bytes) old
    → Answered false events.Up (push_answer text up told) (push_answer text true told) old new
once text bytes up told old new e copy s =
    subst (λ (u : Bool). Answered false events.Up (push_answer text u told) (push_answer text true told) old new) (sym e)
    (answers_up bytes [] text old new (copy ∙ sym (drop-front [] text)) s)
