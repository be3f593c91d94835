-- What two histories that follow one another say together.
use Rattle.std.proofs.Common.{◌≡◌, ℕ, Bool, List, [], ◌∷◌, ◌++◌, refl, arith}
use Rattle.ix_history.specs.Events.{Event, took, came, worked, gone, lent, Happened}
use Rattle.ix_history.specs.Items.{taken_in, gone_to, came_from, handed_out}
use Rattle.ix_history.specs.Run.{landed_in, shipped_in}
use Rattle.ix_history.specs.Laws.{SayTogether, RunsGoOn}
use Rattle.ix_history.proofs.Joining.{runs-join}

module _ {U I O : Type 0} where
  taken-append : (es fs : List (Event U I O)) → taken_in (es ++ fs) ≡ taken_in es ++ taken_in fs
  taken-append [] fs = refl
  taken-append (took x ∷ es) fs = let rest = taken-append es fs in grind arith
  taken-append (came b s ∷ es) fs = taken-append es fs
  taken-append (worked max ∷ es) fs = taken-append es fs
  taken-append (gone s ∷ es) fs = taken-append es fs
  taken-append (lent h u out v ∷ es) fs = taken-append es fs

  gone-append : (d : ℕ) (es fs : List (Event U I O)) → gone_to d (es ++ fs) ≡ gone_to d es ++ gone_to d fs
  gone-append d [] fs = refl
  gone-append d (took x ∷ es) fs = gone-append d es fs
  gone-append d (came b s ∷ es) fs = gone-append d es fs
  gone-append d (worked max ∷ es) fs = gone-append d es fs
  gone-append d (gone s ∷ es) fs = let rest = gone-append d es fs in grind arith
  gone-append d (lent h u out v ∷ es) fs = gone-append d es fs

  came-append : (c : ℕ) (es fs : List (Event U I O)) → came_from c (es ++ fs) ≡ came_from c es ++ came_from c fs
  came-append c [] fs = refl
  came-append c (took x ∷ es) fs = came-append c es fs
  came-append c (came b s ∷ es) fs = let rest = came-append c es fs in grind arith
  came-append c (worked max ∷ es) fs = came-append c es fs
  came-append c (gone s ∷ es) fs = came-append c es fs
  came-append c (lent h u out v ∷ es) fs = came-append c es fs

  handed-append : (es fs : List (Event U I O)) → handed_out (es ++ fs) ≡ handed_out es ++ handed_out fs
  handed-append [] fs = refl
  handed-append (took x ∷ es) fs = handed-append es fs
  handed-append (came b s ∷ es) fs = handed-append es fs
  handed-append (worked max ∷ es) fs = handed-append es fs
  handed-append (gone s ∷ es) fs = handed-append es fs
  handed-append (lent h u out v ∷ es) fs = let rest = handed-append es fs in grind arith

  landed-append : (es fs : List (Event U I O)) → landed_in (es ++ fs) ≡ landed_in es ++ landed_in fs
  landed-append [] fs = refl
  landed-append (took x ∷ es) fs = landed-append es fs
  landed-append (came b s ∷ es) fs = let rest = landed-append es fs in grind arith
  landed-append (worked max ∷ es) fs = landed-append es fs
  landed-append (gone s ∷ es) fs = landed-append es fs
  landed-append (lent h u out v ∷ es) fs = landed-append es fs

  shipped-append : (es fs : List (Event U I O)) → shipped_in (es ++ fs) ≡ shipped_in es ++ shipped_in fs
  shipped-append [] fs = refl
  shipped-append (took x ∷ es) fs = shipped-append es fs
  shipped-append (came b s ∷ es) fs = shipped-append es fs
  shipped-append (worked max ∷ es) fs = shipped-append es fs
  shipped-append (gone s ∷ es) fs = let rest = shipped-append es fs in grind arith
  shipped-append (lent h u out v ∷ es) fs = shipped-append es fs

  pub say-together : SayTogether U I O
  say-together = record { items = taken-append; shipped = gone-append; landed = came-append; handed = handed-append }

module _ {U I O E : Type 0} (counted : I → Bool) (name : I → ℕ) (stepped : U → List (ℕ × ℕ)) (advanced : U → E → ℕ → List I → U → Type 0) (lends : U → O → U → Type 0) where
  pub runs-go-on : RunsGoOn counted name stepped advanced lends
  runs-go-on = record {
    stays = λ env x. record { events = []; runs = refl; took_all = refl; landed_all = refl; handed_all = refl; shipped_all = refl };
    took_one = λ env x y i h. record { events = took i ∷ []; runs = (y, h, refl); took_all = refl; landed_all = refl; handed_all = refl; shipped_all = refl };
    came_one = λ env x y c s h. record { events = came c s ∷ []; runs = (y, h, refl); took_all = refl; landed_all = refl; handed_all = refl; shipped_all = refl };
    worked_once = λ env x y max h. record { events = worked max ∷ []; runs = (y, h, refl); took_all = refl; landed_all = refl; handed_all = refl; shipped_all = refl };
    gone_one = λ env x y s h. record { events = gone s ∷ []; runs = (y, h, refl); took_all = refl; landed_all = refl; handed_all = refl; shipped_all = refl };
    lent_one = λ env x y g u out v h. record { events = lent g u out v ∷ []; runs = (y, h, refl); took_all = refl; landed_all = refl; handed_all = refl; shipped_all = refl };
    joins = λ env x y z items items' ins ins' outs outs' left left' p q. record {
      events = p.events ++ q.events;
      runs = runs-join (Happened counted name stepped advanced lends env) x y z p.events q.events p.runs q.runs;
      took_all = let e = taken-append p.events q.events in let a = p.took_all in let b = q.took_all in cc;
      landed_all = let e = landed-append p.events q.events in let a = p.landed_all in let b = q.landed_all in cc;
      handed_all = let e = handed-append p.events q.events in let a = p.handed_all in let b = q.handed_all in cc;
      shipped_all = let e = shipped-append p.events q.events in let a = p.shipped_all in let b = q.shipped_all in cc;
    };
  }
