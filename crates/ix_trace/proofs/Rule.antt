-- The reader of lines answers the one report, or the first bad line.
use Rattle.std.proofs.Common.{◌≡◌, ℕ, ◌+◌, List, [], ◌∷◌, ◌++◌, refl, ap, sym, ◌∙◌, subst, append_assoc, Option, Some, None, Result, Ok, Err}
use Rattle.std.proofs.lemmas.List.{append-nil}
use Rattle.ix_lines.specs.declared.line.Line.{Line}
use Rattle.ix_trace.specs.declared.sheet.Sheet.{Sheet}
use Rattle.ix_trace.specs.declared.progress.Progress.{Progress}
use Rattle.ix_trace.specs.declared.progress.Progress.TheVariants as states
use Rattle.ix_trace.specs.Sheet.{sheet_lines, IsReport}
use Rattle.ix_trace.specs.Machine.{step, run, then_run}
use Rattle.ix_trace.specs.Reading.{ended, then_lines}
use Rattle.ix_trace.proofs.SoFar.{so_far}
use Rattle.ix_trace.proofs.Follows.{IsAlive, step_follows}
use Rattle.ix_trace.proofs.Complete.{run_gives}
use Rattle.ix_trace.proofs.Live.{Begins, so_far_begins}

-- the report that lines are
abbrev pub lines_read : ℕ → Progress → List Line → Result Sheet ℕ
lines_read n s [] = ended n s
lines_read n s (l ∷ ls) = then_lines n (λ t. lines_read (n + 1) t ls) (step s l)

pub run-append : (xs ys : List Line) (s : Progress) → run s (xs ++ ys) ≡ then_run (λ t. run t ys) (run s xs)
run-append [] ys s = refl
run-append (x ∷ xs) ys s = go (step s x) (λ t. run-append xs ys t) where
  go : (o : Option Progress) → ((t : Progress) → run t (xs ++ ys) ≡ then_run (λ t. run t ys) (run t xs)) → then_run (λ t. run t (xs ++ ys)) o ≡ then_run (λ t. run t ys) (then_run (λ t. run t xs) o)
  go None more = refl
  go (Some t) more = more t

-- a state that is met behind these lines
pub record Met (front : List Line) (s : Progress) : Type 0 where
  pub ran : run states.AtHead front ≡ Some s
  pub alive : IsAlive s
  pub said : so_far s ≡ front

pub met_start : Met [] states.AtHead
met_start = record { ran = refl; alive = tt; said = refl }

pub met_step : (front : List Line) (s t : Progress) (l : Line) → Met front s → step s l ≡ Some t → Met (front ++ l ∷ []) t
met_step front s t l m e =
    let f = step_follows s m.alive l t e in
    record {
      ran = run-append front (l ∷ []) states.AtHead ∙ ap (then_run (λ t. run t (l ∷ []))) m.ran ∙ ap (then_run (λ t. run t [])) e;
      alive = f.alive;
      said = f.said ∙ ap (λ r. r ++ l ∷ []) m.said;
    }

pub begins_met : (front : List Line) (s : Progress) → Met front s → Begins front
begins_met front s m = subst Begins m.said (so_far_begins s m.alive)

-- a line that does not go on begins no report
pub stuck : (front : List Line) (s : Progress) (l : Line) → Met front s → step s l ≡ None → Begins (front ++ l ∷ []) → ⊥
stuck front s l m e b =
    let gives : run states.AtHead (sheet_lines b.sheet) ≡ Some (states.Done b.sheet) = run_gives b.sheet b.report in
    let none : run states.AtHead (sheet_lines b.sheet) ≡ None =
    ap (run states.AtHead) (b.whole ∙ append_assoc front (l ∷ []) b.more)
    ∙ run-append front (l ∷ b.more) states.AtHead ∙ ap (then_run (λ t. run t (l ∷ b.more))) m.ran ∙ ap (then_run (λ t. run t b.more)) e in
    cc (gives, none)

-- lines that end before the end are no report's
pub ended_early : (front : List Line) (s : Progress) (m n : ℕ) → Met front s → ended n s ≡ Err m
    → (r : Sheet) → IsReport r → sheet_lines r ≡ front → ⊥
ended_early front s m n met e r ok is =
    let gives : run states.AtHead front ≡ Some (states.Done r) = ap (run states.AtHead) (sym is) ∙ run_gives r ok in
    let ran = met.ran in
    let done : states.Done r ≡ s = cc (gives, ran) in
    let f : Ok r ≡ Err m = ap (ended n) done ∙ e in
    cc f

pub ended_number : (s : Progress) (m n : ℕ) → ended n s ≡ Err m → m ≡ n + 1
ended_number states.AtHead m n e = cc
ended_number (states.AtOpen h) m n e = cc
ended_number (states.InFirst h s) m n e = cc
ended_number (states.Between d) m n e = cc
ended_number (states.InSettle d s) m n e = cc
ended_number (states.InConn d o is) m n e = cc
ended_number (states.InInput d o is k os) m n e = cc
ended_number (states.AtAnswer d o is f) m n e = cc
ended_number (states.Done s) m n e = absurd (cc)

ended_done : (s : Progress) (n : ℕ) (r : Sheet) → ended n s ≡ Ok r → s ≡ states.Done r
ended_done states.AtHead n r e = absurd (cc)
ended_done (states.AtOpen h) n r e = absurd (cc)
ended_done (states.InFirst h s) n r e = absurd (cc)
ended_done (states.Between d) n r e = absurd (cc)
ended_done (states.InSettle d s) n r e = absurd (cc)
ended_done (states.InConn d o is) n r e = absurd (cc)
ended_done (states.InInput d o is k os) n r e = absurd (cc)
ended_done (states.AtAnswer d o is f) n r e = absurd (cc)
ended_done (states.Done s) n r e = let k : s ≡ r = cc in ap states.Done k

read_found : (ls front : List Line) (n : ℕ) (r : Sheet) (s : Progress) → Met front s → lines_read n s ls ≡ Ok r → IsReport r × (sheet_lines r ≡ front ++ ls)
read_found [] front n r s met e =
    let d = ended_done s n r e in
    let alive = met.alive in
    (subst IsAlive d alive, ap so_far (sym d) ∙ met.said ∙ sym (append-nil front))
read_found (l ∷ ls) front n r s met e = go (step s l) refl e (λ t f g. read_found ls (front ++ l ∷ []) (n + 1) r t (met_step front s t l met f) g) where
  go : (o : Option Progress) → step s l ≡ o → then_lines n (λ t. lines_read (n + 1) t ls) o ≡ Ok r
      → ((t : Progress) → step s l ≡ Some t → lines_read (n + 1) t ls ≡ Ok r → IsReport r × (sheet_lines r ≡ (front ++ l ∷ []) ++ ls)) → IsReport r × (sheet_lines r ≡ front ++ l ∷ ls)
  go None f g more = absurd (cc)
  go (Some t) f g more = let h = more t f g in (h.0, h.1 ∙ append_assoc front (l ∷ []) ls)

-- what is read is written so
pub lines_found : (ls : List Line) (r : Sheet) → lines_read 0 states.AtHead ls ≡ Ok r → IsReport r × (sheet_lines r ≡ ls)
lines_found ls r e = read_found ls [] 0 r states.AtHead met_start e

read_runs : (ls : List Line) (n : ℕ) (s : Progress) (r : Sheet) → run s ls ≡ Some (states.Done r) → lines_read n s ls ≡ Ok r
read_runs [] n s r e = let d : s ≡ states.Done r = cc in ap (ended n) d
read_runs (l ∷ ls) n s r e = go (step s l) e (λ t f. read_runs ls (n + 1) t r f) where
  go : (o : Option Progress) → then_run (λ t. run t ls) o ≡ Some (states.Done r) → ((t : Progress) → run t ls ≡ Some (states.Done r) → lines_read (n + 1) t ls ≡ Ok r)
      → then_lines n (λ t. lines_read (n + 1) t ls) o ≡ Ok r
  go None f more = absurd (cc)
  go (Some t) f more = more t f

-- what is written is read
pub lines_again : (r : Sheet) → IsReport r → lines_read 0 states.AtHead (sheet_lines r) ≡ Ok r
lines_again r ok = read_runs (sheet_lines r) 0 states.AtHead r (run_gives r ok)

-- two reports never have one list of lines
pub one_report : (r s : Sheet) → IsReport r → IsReport s → sheet_lines r ≡ sheet_lines s → r ≡ s
one_report r s p q e =
    let a = lines_again r p in
    let b : lines_read 0 states.AtHead (sheet_lines r) ≡ Ok s = ap (lines_read 0 states.AtHead) e ∙ lines_again s q in
    cc (a, b)
