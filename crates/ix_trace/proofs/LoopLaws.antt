-- A line that ends at a line feed has a part behind it.
use Rattle.std.proofs.Common.{◌≡◌, ℕ, ◌+◌, List, [], ◌∷◌, refl, ap, ◌∙◌, Bool, true, false, Some, None}
use Rattle.std.specs.Prelude.{if◌then◌else◌, ◌==◌}
use Rattle.ix_words.specs.Parts.{parts, push_front}
use Rattle.ix_trace.specs.declared.progress.Progress.{Progress}
use Rattle.ix_trace.specs.Reading.{then_lines, line_step, texts_read}

more_parts : (n : ℕ) (s : Progress) (line : List ℕ) (t : Bool) (b : ℕ) (ps : List (List ℕ))
    → texts_read n s (line ∷ (if t then [] ∷ ps else push_front b ps)) ≡ then_lines n (λ u. texts_read (n + 1) u (if t then [] ∷ ps else push_front b ps)) (line_step s line)
more_parts n s line true b ps = refl
more_parts n s line false b [] = refl
more_parts n s line false b (p ∷ ps) = refl

pub texts_more : (n : ℕ) (s : Progress) (line after : List ℕ)
    → texts_read n s (line ∷ parts 10 after) ≡ then_lines n (λ t. texts_read (n + 1) t (parts 10 after)) (line_step s line)
texts_more n s line [] = refl
texts_more n s line (b ∷ bs) = more_parts n s line (b == 10) b (parts 10 bs)

-- the text is read on behind a line that goes on
pub line_goes : (n : ℕ) (s t : Progress) (rest line after : List ℕ) → parts 10 rest ≡ line ∷ parts 10 after → line_step s line ≡ Some t
    → texts_read n s (parts 10 rest) ≡ texts_read (n + 1) t (parts 10 after)
line_goes n s t rest line after e f = ap (texts_read n s) e ∙ texts_more n s line after ∙ ap (then_lines n (λ t. texts_read (n + 1) t (parts 10 after))) f

pub line_stops : (n : ℕ) (s : Progress) (rest line after : List ℕ) → parts 10 rest ≡ line ∷ parts 10 after → line_step s line ≡ None
    → texts_read n s (parts 10 rest) ≡ then_lines n (λ t. texts_read (n + 1) t (parts 10 after)) None
line_stops n s rest line after e f = ap (texts_read n s) e ∙ texts_more n s line after ∙ ap (then_lines n (λ t. texts_read (n + 1) t (parts 10 after))) f

pub ruleset loop_steps = (line_goes, line_stops)
