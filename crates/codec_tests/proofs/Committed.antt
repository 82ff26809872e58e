-- One change with a patch that fits its object can be committed.
use Rattle.std.specs.Prelude.{◌≡◌, [], ◌∷◌, true, List, nat_le, IsTrue}
use Rattle.std.proofs.Common.{refl, sym, subst, arith}
use Rattle.std.proofs.lemmas.Bool.{and_from, le-leb}
use Rattle.aw_schema.specs.declared.definition.DefKind.{DefKind}
use Rattle.aw_body.specs.declared.body.Body.{Body}
use Rattle.aw_body.specs.declared.change.Change.{Change}
use Rattle.aw_body.specs.Fitting.{fits}
use Rattle.aw_codec.specs.Records.{AreCommittable, is_recordable}
use Rattle.aw_codec.proofs.CallerLemmas.{recordable_fits}

pub one_committed : (changes : List Change) (c : Change) (kind : DefKind) (latest : Body) → changes ≡ c ∷ [] → IsTrue (fits c.patch kind latest) → AreCommittable changes
one_committed changes c kind latest is fit =
    subst AreCommittable (sym is) (record {
      some = omega arith;
      few = omega arith;
      rising = and_from (nat_le 0 c.object) true (le-leb 0 c.object (omega arith)) refl;
      recordable = and_from (is_recordable c.patch) true (recordable_fits c.patch kind latest fit) refl;
    })
