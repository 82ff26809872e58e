use Rattle.std.proofs.Common.{◌≡◌, true, false, ap, sym, ◌∙◌, []}
use Rattle.aw_store.specs.StoredRecords.{are_replayed, are_accepted_after}
use Rattle.aw_store.proofs.Taking.{there-already, unreplayed, replayed-as, defined}
use Rattle.aw_store.proofs.replay.Replayed.define.Goals as goal

pub returns-then-is_some-clause-follows : goal.returns-then-is_some-clause-follows
returns-then-is_some-clause-follows c = λ records leave.
    let old = c.args.self.now in
    there-already records old.catalogue old.shared leave c.args.definitions (sym c.is_some.ensures ∙ c.if-is_some.true)

pub returns-then-not-are_replayed-clause-follows : goal.returns-then-not-are_replayed-clause-follows
returns-then-not-are_replayed-clause-follows c = λ records leave.
    let old = c.args.self.now in
    let kinds : are_replayed c.args.definitions ≡ false = ap are_replayed (sym c.as_slice.ensures) ∙ sym c.are_replayed.ensures ∙ c.if-not-are_replayed.true in
    unreplayed records old.catalogue old.shared leave c.args.definitions (sym c.is_some.ensures ∙ c.if-is_some.false) kinds

pub returns-in_ok-self-in-Some-clause-follows : goal.returns-in_ok-self-in-Some-clause-follows
returns-in_ok-self-in-Some-clause-follows c = λ records leave.
    let old = c.args.self.now in
    let kinds : are_replayed c.args.definitions ≡ true = ap are_replayed (sym c.as_slice.ensures) ∙ sym c.are_replayed.ensures ∙ c.if-not-are_replayed.false in
    let made : (are_accepted_after [] c.args.definitions ≡ true) × (c.in-Some.catalogue ≡ c.args.definitions) = rw c.in-Some.is at c.in_ok-catalogue.ensures in
    replayed-as records old.catalogue old.shared leave c.args.definitions true (sym c.is_some.ensures ∙ c.if-is_some.false) kinds made.0

pub returns-in_ok-self-in-Some-clause-leave : goal.returns-in_ok-self-in-Some-clause-leave
returns-in_ok-self-in-Some-clause-leave c = λ records leave done.
    let old = c.args.self.now in
    let kinds : are_replayed c.args.definitions ≡ true = ap are_replayed (sym c.as_slice.ensures) ∙ sym c.are_replayed.ensures ∙ c.if-not-are_replayed.false in
    let made : (are_accepted_after [] c.args.definitions ≡ true) × (c.in-Some.catalogue ≡ c.args.definitions) = rw c.in-Some.is at c.in_ok-catalogue.ensures in
    defined records old.catalogue old.shared leave c.args.definitions c.in-Some.catalogue c.in_ok-self-in-Some.field-0 (sym c.is_some.ensures ∙ c.if-is_some.false) kinds made c.in_ok-self-in-Some.ensures

pub returns-in-None-clause-follows : goal.returns-in-None-clause-follows
returns-in-None-clause-follows c = λ records leave.
    let old = c.args.self.now in
    let kinds : are_replayed c.args.definitions ≡ true = ap are_replayed (sym c.as_slice.ensures) ∙ sym c.are_replayed.ensures ∙ c.if-not-are_replayed.false in
    let refused : are_accepted_after [] c.args.definitions ≡ false = rw c.in-None.is at c.in_ok-catalogue.ensures in
    replayed-as records old.catalogue old.shared leave c.args.definitions false (sym c.is_some.ensures ∙ c.if-is_some.false) kinds refused
