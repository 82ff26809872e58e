-- What the images of a journal hold.
use Rattle.std.proofs.Common.{◌≡◌, ℕ, List, None, Result, Ok, Err, OnOk, false, not, is_err, refl, inl}
use Rattle.aw_journal.specs.CrashPayloads.{Left}
use Rattle.aw_journal.specs.Journal.{Stands, doubtful, framed, AtRest}
use Rattle.aw_journal.specs.declared.doubt.Doubt.{Doubt}
use Rattle.aw_journal.specs.declared.doubt.Doubt.TheVariants.{Settled, Closed, Opening}
use denote.Enum.Bare.{sameb}
use Rattle.aw_journal.specs.contracts.doubt.Doubt.{the_type}
use Rattle.aw_journal.proofs.callers.Frames.{HalfOpen-left}

pub Stands-left : (doubt : Doubt) (settled : List (List ℕ)) (frame : List ℕ) (gate : ℕ) (image : List ℕ) →
    Stands doubt settled frame gate image → Left settled (doubtful doubt frame) image
Stands-left Settled settled frame gate image stands = stands.holds
Stands-left Closed settled frame gate image stands = inl stands.holds
Stands-left Opening settled frame gate image stands = HalfOpen-left settled (framed frame) gate image stands

pub not_in_doubt : (doubt : Doubt) (frame : List ℕ) → doubtful doubt frame ≡ None → doubt ≡ Settled
not_in_doubt Settled frame certain = refl
not_in_doubt Closed frame certain = cc
not_in_doubt Opening frame certain = cc

pub at_rest : (doubt : Doubt) (settled : List (List ℕ)) (frame : List ℕ) (gate : ℕ) (image : List ℕ) → doubtful doubt frame ≡ None →
    Stands doubt settled frame gate image → AtRest settled gate image
at_rest Settled settled frame gate image certain stands = stands
at_rest Closed settled frame gate image certain stands = cc
at_rest Opening settled frame gate image certain stands = cc

-- the clause of a call that didn't fail
pub on_ok : {T E P : Type 0} (result : Result T E) → is_err result ≡ false → OnOk result P → P
on_ok (Ok value) fine clause = clause
on_ok (Err error) fine clause = cc

pub opens : (doubt : Doubt) → false ≡ not (sameb the_type doubt Opening) → doubt ≡ Opening
opens Settled same = cc
opens Closed same = cc
opens Opening same = refl
