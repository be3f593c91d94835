-- What is delivered over numbers stands for what is delivered of the connection.
use Rattle.std.proofs.Common.{◌≡◌, ℕ, ◌+◌, ◌-◌, ◌%◌, ◌^◌, ◌<◌, ◌≤◌, Bool, true, false, if◌then◌else◌, List, [], ◌∷◌, ◌++◌, length, drop, arith, refl, ap, sym, subst, ◌∙◌, inl, inr, append-nil, append_assoc, length-drop}
use Rattle.std.specs.Prelude.{nat_lt, nat_le, not, min, map}
use Rattle.std.proofs.lemmas.Bool.{cases_Bool}
use Rattle.std.proofs.lemmas.Grind.{common_steps}
use Rattle.ix_base.specs.declared.id.WireNo.{WireNo}
use Rattle.ix_base.specs.Sequence.{number, ahead, is_past}
use Rattle.ix_tcpdef.specs.Connection.{acked_data, rcv_nxt, on, gives}
use Rattle.ix_tcpdef.specs.Body.{delivered, rest_of, holding, filled}
use Rattle.ix_tcpdef.specs.Calls.{recv_of}
use Rattle.ix_tcpdef.specs.Needs.{EndsBy}
use Rattle.ix_tcpdef.specs.Sound.{RisesFrom}
use Rattle.ix_tcpdef.specs.declared.types.Connection.{Connection}
use Rattle.ix_tcpdef.specs.declared.types.HeldSegment.{HeldSegment}
use Rattle.ix_tcpdef.specs.declared.types.Job.{Job}
use Rattle.ix_tcpdef.specs.declared.types.Octets.{Octets}
use Rattle.ix_tcpdef.specs.declared.types.Output.{Output}
use Rattle.ix_tcpdef.specs.declared.types.Output.TheVariants as outputs
use Rattle.ix_tcpdef.specs.declared.types.Piece.{Piece}
use Rattle.ix_tcpdef.specs.declared.types.Told.TheVariants as told
use Rattle.ix_tcpdef.specs.Stands.{tcb_of, head_of}
use Rattle.ix_tcpin.proofs.PositionLemmas.{counts_ahead, tests_past, goes_on}
use Rattle.ix_tcpin.specs.declared.verdict.HeldUse.{HeldUse}
use Rattle.ix_tcpin.specs.declared.verdict.HeldUse.TheVariants as uses
use Rattle.ix_tcpin.specs.Work.{keep}
use Rattle.ix_tcpin.specs.Text.{moved, holds, first, Filled, filled_numbers}
use Rattle.ix_tcpin.specs.Verdict.{used, held_pieces, stays, kept_held, told_pieces}
use Rattle.ix_tcpin.proofs.Relation.{keep-pieces, keep-held}

-- ## Delivery
-- the piece that octets become, where the application did not close the connection
abbrev pub piece_of : WireNo → Octets → Bool → Piece
piece_of n o accepted = record { w = n; from = o.from; bytes = o.bytes; told = accepted }

abbrev pub pieces_of : WireNo → Octets → Connection → List Piece
pieces_of n o c = if c.shut then [] else piece_of n o c.accepted ∷ []

-- what delivery leaves as it was
pub record SameRest (w v : Connection) : Type 0 where
  pub irs : v.irs ≡ w.irs
  pub held : v.held ≡ w.held
  pub accepted : v.accepted ≡ w.accepted
  pub shut : v.shut ≡ w.shut
  pub state : v.state ≡ w.state
  pub acked : acked_data v ≡ acked_data w

pub record Delivers (n : WireNo) (o : Octets) (j r : Job) : Type 0 where
  pub numbers : moved (length o.bytes) (tcb_of j.connection) ≡ tcb_of r.connection
  pub pieces : r.connection.pieces ≡ j.connection.pieces ++ pieces_of n o j.connection
  pub outputs : r.outputs ≡ j.outputs ++ told_pieces (pieces_of n o j.connection)
  pub same : SameRest j.connection r.connection
  pub rcv : r.connection.rcv ≡ j.connection.rcv + length o.bytes
  pub unread : r.connection.unread ≤ j.connection.unread + length o.bytes

few : (unread n : ℕ) → unread + n < 2 ^ 31 → min (unread + n) (2 ^ 32 - 1) ≡ unread + n
few unread n small = omega arith

-- the numbers of a connection that so many octets were delivered to
numbers_then : (m : ℕ) (w : Connection) (unread : ℕ) → (if w.shut then w.unread else min (w.unread + m) (2 ^ 32 - 1)) ≡ unread → moved m (tcb_of w) ≡ tcb_of (record w { rcv = w.rcv + m; ack_owed = true; unread = unread })
numbers_then m w unread count =
    ap (λ (u : ℕ). record (tcb_of w) { rcv_nxt = (rcv_nxt w + m) % 2 ^ 32; ack_owed = true; unread = u }) count
    ∙ ap (λ (r : ℕ). record (tcb_of w) { rcv_nxt = r; ack_owed = true; unread = unread }) (sym (goes_on w.irs w.rcv m))

pub delivers : (n : WireNo) (o : Octets) (j : Job) → j.connection.unread + length o.bytes < 2 ^ 31 → Delivers n o j (delivered o n j)
unfolding delivered
delivers n o j small = by_tests j.connection.shut j.connection.accepted refl refl
  where
    c : Connection
    c = j.connection

    by_tests : (a b : Bool) → j.connection.shut ≡ a → j.connection.accepted ≡ b → Delivers n o j (if a then on j (record j.connection { rcv = j.connection.rcv + length o.bytes; ack_owed = true }) else if b then gives (on j (record j.connection { rcv = j.connection.rcv + length o.bytes; ack_owed = true; unread = j.connection.unread + length o.bytes; pieces = j.connection.pieces ++ piece_of n o j.connection.accepted ∷ [] })) (outputs.Told (told.Recv n o.from (length o.bytes))) else on j (record j.connection { rcv = j.connection.rcv + length o.bytes; ack_owed = true; unread = j.connection.unread + length o.bytes; pieces = j.connection.pieces ++ piece_of n o j.connection.accepted ∷ [] }))
    by_tests true b p q =
        record {
          numbers = numbers_then (length o.bytes) j.connection j.connection.unread (rw p refl);
          pieces = rw p (sym (append-nil j.connection.pieces));
          outputs = rw p (sym (append-nil j.outputs));
          same = record { irs = refl; held = refl; accepted = refl; shut = refl; state = refl; acked = refl };
          rcv = refl;
          unread = omega arith;
        }
    by_tests false true p q =
        record {
          numbers = numbers_then (length o.bytes) j.connection (j.connection.unread + length o.bytes) (rw p (few j.connection.unread (length o.bytes) small));
          pieces = rw p refl;
          outputs = rw (p, q) refl;
          same = record { irs = refl; held = refl; accepted = refl; shut = refl; state = refl; acked = refl };
          rcv = refl;
          unread = omega arith;
        }
    by_tests false false p q =
        record {
          numbers = numbers_then (length o.bytes) j.connection (j.connection.unread + length o.bytes) (rw p (few j.connection.unread (length o.bytes) small));
          pieces = rw p refl;
          outputs = rw (p, q) (sym (append-nil j.outputs));
          same = record { irs = refl; held = refl; accepted = refl; shut = refl; state = refl; acked = refl };
          rcv = refl;
          unread = omega arith;
        }

-- ## Filling
-- what numbers want of where held segments stand: base is where delivery began, and everything ends by top
pub record IsNear (base top : ℕ) (w : Connection) : Type 0 where
  pub far : top ≤ base + 65535
  pub begun : base ≤ w.rcv
  pub reach : w.rcv ≤ top
  pub space : top + w.unread ≤ w.rcv + 65535

pub told-append : (ps qs : List Piece) → told_pieces (ps ++ qs) ≡ told_pieces ps ++ told_pieces qs
told-append [] qs = refl
told-append (p ∷ ps) qs =
    elim (cases_Bool p.told) [
      | inl heard ↦ rw heard (ap (λ (l : List Output). recv_of p ∷ l) (told-append ps qs))
      | inr unheard ↦ rw unheard (told-append ps qs)
    ]

-- what filling leaves; ss: what is held; b: whether the connection is accepted
pub record Fills (b : Bool) (ss : List HeldSegment) (j : Job) (f : Filled) (r : Job × Bool) : Type 0 where
  pub numbers : f.numbers ≡ tcb_of r.0.connection
  pub fin : f.fin ≡ r.1
  pub pieces : r.0.connection.pieces ≡ j.connection.pieces ++ held_pieces b ss f.uses
  pub outputs : r.0.outputs ≡ j.outputs ++ told_pieces (held_pieces b ss f.uses)
  pub held : r.0.connection.held ≡ kept_held ss f.uses
  pub acked : acked_data r.0.connection ≡ acked_data j.connection
  pub state : r.0.connection.state ≡ j.connection.state

-- the tests over numbers
begins_test : (base top irs rcv at len : ℕ) → top ≤ base + 65535 → base ≤ rcv → rcv ≤ top → base ≤ at → at + len ≤ top → is_past (number irs rcv) (number irs at) ≡ nat_lt rcv at
begins_test base top irs rcv at len far begun reach low end = tests_past irs rcv at (omega arith) (omega arith)

ends_test : (base top irs rcv at len : ℕ) → top ≤ base + 65535 → base ≤ rcv → rcv ≤ top → base ≤ at → at + len ≤ top → not (is_past (number irs rcv) ((number irs at + len) % 2 ^ 32)) ≡ nat_le (at + len) rcv
ends_test base top irs rcv at len far begun reach low end =
    ap (λ (x : ℕ). not (is_past (number irs rcv) x)) (sym (goes_on irs at len))
    ∙ ap not (tests_past irs rcv (at + len) (omega arith) (omega arith))
    ∙ turned rcv (at + len)
  where
    turned : (a b : ℕ) → not (nat_lt a b) ≡ nat_le b a
    turned a b = grind (arith, common_steps)

-- how far a held segment reaches, and what of it was reached before
reaches : (base top irs rcv at len : ℕ) → top ≤ base + 65535 → base ≤ rcv → at ≤ rcv → rcv ≤ at + len → at + len ≤ top → ahead (number irs rcv) ((number irs at + len) % 2 ^ 32) ≡ len - (rcv - at)
reaches base top irs rcv at len far begun behind more end =
    ap (ahead (number irs rcv)) (sym (goes_on irs at len)) ∙ counts_ahead irs rcv (at + len) more (omega arith) ∙ omega arith

reached : (base top irs rcv at len : ℕ) → top ≤ base + 65535 → base ≤ rcv → at ≤ rcv → rcv ≤ at + len → at + len ≤ top → base ≤ at → min (ahead (number irs at) (number irs rcv)) len ≡ rcv - at
reached base top irs rcv at len far begun behind more end low =
    ap (λ (n : ℕ). min n len) (counts_ahead irs at rcv behind (omega arith)) ∙ omega arith

-- ## One held segment that is reached
use_then : (b : Bool) (s : HeldSegment) (from : ℕ) (w : Connection) → w.accepted ≡ b → used b s (if w.shut then uses.Drop else uses.Deliver from) ≡ (if w.shut then [] else (record { w = s.w; from = s.from + from; bytes = drop from s.bytes; told = w.accepted }) ∷ [])
use_then b s from w accepted = by_test w.shut
  where
    by_test : (a : Bool) → used b s (if a then uses.Drop else uses.Deliver from) ≡ (if a then [] else (record { w = s.w; from = s.from + from; bytes = drop from s.bytes; told = w.accepted }) ∷ [])
    by_test true = refl
    by_test false = ap (λ (t : Bool). (record { w = s.w; from = s.from + from; bytes = drop from s.bytes; told = t }) ∷ []) (sym accepted)

stays_not : (s : HeldSegment) (from : ℕ) (shut : Bool) → stays s (if shut then uses.Drop else uses.Deliver from) ≡ []
stays_not s from true = refl
stays_not s from false = refl

-- what is taken of the first held segment, and then what filling leaves of the others
taken-then : (b : Bool) (s : HeldSegment) (rest : List HeldSegment) (j i : Job) (o : Octets) (u : HeldUse) (f : Filled) (r : Job × Bool) → used b s u ≡ pieces_of s.w o j.connection → stays s u ≡ [] → Delivers s.w o j i → Fills b rest i f r → Fills b (s ∷ rest) j (first u f) r
taken-then b s rest j i o u f r piece gone d ih =
    record {
      numbers = ih.numbers;
      fin = ih.fin;
      pieces = rw piece (ih.pieces ∙ ap (λ (l : List Piece). l ++ held_pieces b rest f.uses) d.pieces ∙ append_assoc j.connection.pieces _ _);
      outputs = rw piece (ih.outputs ∙ ap (λ (l : List Output). l ++ told_pieces (held_pieces b rest f.uses)) d.outputs ∙ append_assoc j.outputs _ _ ∙ ap (λ (l : List Output). j.outputs ++ l) (sym (told-append (pieces_of s.w o j.connection) (held_pieces b rest f.uses))));
      held = rw gone ih.held;
      acked = ih.acked ∙ d.same.acked;
      state = ih.state ∙ d.same.state;
    }

-- where nothing more is reached
stops : (b fin : Bool) (irs : ℕ) (ss : List HeldSegment) (j : Job) → j.connection.held ≡ ss → Fills b ss j (record { numbers = tcb_of j.connection; uses = map keep (map (head_of irs) ss); fin = fin }) (j, fin)
stops b fin irs ss j is =
    record {
      numbers = refl;
      fin = refl;
      pieces = rw (keep-pieces b irs ss) (sym (append-nil j.connection.pieces));
      outputs = rw (keep-pieces b irs ss) (sym (append-nil j.outputs));
      held = is ∙ sym (keep-held irs ss);
      acked = refl;
      state = refl;
    }

pub fill-stands : (base top low : ℕ) (b : Bool) (ss : List HeldSegment) (fin : Bool) (j : Job) → j.connection.accepted ≡ b → j.connection.held ≡ ss → base ≤ low → RisesFrom low ss → EndsBy top ss → IsNear base top j.connection → Fills b ss j (filled_numbers (map (head_of j.connection.irs) ss) fin (tcb_of j.connection)) (filled ss fin j)
unfolding filled filled_numbers
fill-stands base top low b [] fin j accepted is above rising ends near = stops b fin j.connection.irs [] j is
fill-stands base top low b (s ∷ rest) fin j accepted is above rising ends near =
    let c : Connection = j.connection in
    let far : top ≤ base + 65535 = near.far in
    let begun : base ≤ c.rcv = near.begun in
    let reach : c.rcv ≤ top = near.reach in
    let space : top + c.unread ≤ c.rcv + 65535 = near.space in
    let at_low : base ≤ s.at = omega (arith, rising.0) in
    let end : s.at + length s.bytes ≤ top = ends.0 in
    let above_rest : base ≤ s.at + length s.bytes = omega arith in
    let begins : is_past (number c.irs c.rcv) (number c.irs s.at) ≡ nat_lt c.rcv s.at = begins_test base top c.irs c.rcv s.at (length s.bytes) far begun reach at_low end in
    let done : not (is_past (number c.irs c.rcv) ((number c.irs s.at + length s.bytes) % 2 ^ 32)) ≡ nat_le (s.at + length s.bytes) c.rcv = ends_test base top c.irs c.rcv s.at (length s.bytes) far begun reach at_low end in
    elim (cases_Bool (nat_lt c.rcv s.at)) [
      | inl before ↦ rw (begins, before) (stops b fin c.irs (s ∷ rest) j is)
      | inr after ↦ rw (begins, after, done) (elim (cases_Bool (nat_le (s.at + length s.bytes) c.rcv)) [
        | inl over ↦ rw over
            (let ih : Fills b rest (holding rest j) (filled_numbers (map (head_of c.irs) rest) fin (tcb_of (holding rest j).connection)) (filled rest fin (holding rest j)) =
            fill-stands base top (s.at + length s.bytes) b rest fin (holding rest j) accepted refl above_rest rising.2 ends.1 (record { far = far; begun = begun; reach = reach; space = space }) in
            record { numbers = ih.numbers; fin = ih.fin; pieces = ih.pieces; outputs = ih.outputs; held = ih.held; acked = ih.acked; state = ih.state })
        | inr more ↦ rw more
            (let behind : s.at ≤ c.rcv = grind (arith, common_steps, after) in
            let reaching : c.rcv < s.at + length s.bytes = grind (arith, common_steps, more) in
            let o : Octets = rest_of s c.rcv in
            let len : length o.bytes ≡ length s.bytes - (c.rcv - s.at) = length-drop (c.rcv - s.at) s.bytes in
            let d : Delivers s.w o (holding rest j) (delivered o s.w (holding rest j)) = delivers s.w o (holding rest j) (omega (arith, len)) in
            let i : Job = delivered o s.w (holding rest j) in
            let near_then : IsNear base top i.connection = record { far = far; begun = omega (arith, d.rcv); reach = omega (arith, d.rcv, len); space = omega (arith, d.rcv, d.unread, len) } in
            let ih : Fills b rest i (filled_numbers (map (head_of i.connection.irs) rest) s.fin (tcb_of i.connection)) (filled rest s.fin i) =
            fill-stands base top (s.at + length s.bytes) b rest s.fin i (d.same.accepted ∙ accepted) d.same.held above_rest rising.2 ends.1 near_then in
            let count : ahead (number c.irs c.rcv) ((number c.irs s.at + length s.bytes) % 2 ^ 32) ≡ length o.bytes = reaches base top c.irs c.rcv s.at (length s.bytes) far begun behind (omega arith) end ∙ sym len in
            let skip : min (ahead (number c.irs s.at) (number c.irs c.rcv)) (length s.bytes) ≡ c.rcv - s.at = reached base top c.irs c.rcv s.at (length s.bytes) far begun behind (omega arith) end at_low in
            let numbers : filled_numbers (map (head_of i.connection.irs) rest) s.fin (tcb_of i.connection) ≡ filled_numbers (map (head_of c.irs) rest) s.fin (moved (ahead (number c.irs c.rcv) ((number c.irs s.at + length s.bytes) % 2 ^ 32)) (holds (map (head_of c.irs) rest) (tcb_of c))) =
            ap (λ (irs : ℕ). filled_numbers (map (head_of irs) rest) s.fin (tcb_of i.connection)) d.same.irs
            ∙ ap (filled_numbers (map (head_of c.irs) rest) s.fin) (sym d.numbers ∙ ap (λ (m : ℕ). moved m (holds (map (head_of c.irs) rest) (tcb_of c))) (sym count)) in
            let ih_then : Fills b rest i (filled_numbers (map (head_of c.irs) rest) s.fin (moved (ahead (number c.irs c.rcv) ((number c.irs s.at + length s.bytes) % 2 ^ 32)) (holds (map (head_of c.irs) rest) (tcb_of c)))) (filled rest s.fin i) =
            subst (λ (f : Filled). Fills b rest i f (filled rest s.fin i)) numbers ih in
            let all : Fills b (s ∷ rest) (holding rest j) (first (if c.shut then uses.Drop else uses.Deliver (c.rcv - s.at)) (filled_numbers (map (head_of c.irs) rest) s.fin (moved (ahead (number c.irs c.rcv) ((number c.irs s.at + length s.bytes) % 2 ^ 32)) (holds (map (head_of c.irs) rest) (tcb_of c))))) (filled rest s.fin i) =
            taken-then b s rest (holding rest j) i o (if c.shut then uses.Drop else uses.Deliver (c.rcv - s.at)) _ _ (use_then b s (c.rcv - s.at) c accepted) (stays_not s (c.rcv - s.at) c.shut) d ih_then in
            rw skip (record { numbers = all.numbers; fin = all.fin; pieces = all.pieces; outputs = all.outputs; held = all.held; acked = all.acked; state = all.state }))
      ])
    ]
