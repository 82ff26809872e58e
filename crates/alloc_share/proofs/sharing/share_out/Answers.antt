use Rattle.std.proofs.Common.{◌≡◌, ◌∙◌, ℤ, true, false, cond, not, Ok, Err, set, to_z, of_z, FitsSigned, rules, w64, sym, ap, subst}
use mir.Syntax.{w128}
use Rattle.alloc_share.specs.declared.fault.ShareFault.TheVariants.{Overflow}
use Rattle.std.proofs.lemmas.Int.{to_z-of_z}
use Rattle.alloc_share.specs.Shares.{truncated_shares, shares_by, is_within, shares_of, answered, written}
use Rattle.alloc_share.proofs.Sizes.{share_fits, within_words}
use Rattle.alloc_share.proofs.Granting.{Stands, stands_coded, within_coded, raised_coded, decided, summed_fit}
use Rattle.alloc_share.proofs.sharing.share_out.Goals as goal

pub full_share-full-requires-clause-fit : goal.full_share-full-requires-clause-fit
full_share-full-requires-clause-fit c =
    summed_fit c.args.limit (shares_by c.args.how (to_z w64 (of_z w64 c.args.amount)) (to_z w128 (of_z w128 c.parts_in_all-all_parts.result)) c.args.weights.now) c.in-Some.sum c.ranges.limit c.in-Some.ensures.value

pub returns-then-not-is_within-clause-answer : goal.returns-then-not-is_within-clause-answer
returns-then-not-is_within-clause-answer c =
    let f : FitsSigned w128 c.parts_in_all-all_parts.result = record { sfits = c.parts_in_all-all_parts.type_inv } in
    let g : FitsSigned w128 c.in-Some.sum = search rules in
    let h : FitsSigned w128 c.full_share-full.result = record { sfits = c.full_share-full.type_inv } in
    let s : Stands c.args.how c.args.rest c.args.amount c.args.weights.now c.args.limit c.place_of_rest-place.result c.full_share-full.result =
    stands_coded c.args.how c.args.rest c.args.amount c.args.weights.now c.args.limit c.parts_in_all-all_parts.result c.in-Some.sum c.full_share-full.result c.place_of_rest-place.result
    c.ranges.amount c.ranges.limit f g (sym c.are_weights.ensures ∙ c.if-not-are_weights.false) c.parts_in_all-all_parts.ensures c.if-all_parts-eq0.false c.in-Some.ensures.value
    c.place_of_rest-place.ensures.value c.place_of_rest-place.ensures.there c.full_share-full.ensures in
    let within : is_within c.args.limit c.full_share-full.result ≡ false = within_coded c.args.limit c.full_share-full.result c.is_within.result false c.ranges.limit h c.is_within.ensures c.if-not-is_within.true in
    let is : shares_of c.args.how c.args.rest c.args.amount c.args.weights.now c.args.limit ≡ cond (not false) (Err Overflow) (Ok (set (truncated_shares c.args.how c.args.amount c.args.weights.now) c.place_of_rest-place.result c.full_share-full.result)) =
    decided c.args.how c.args.rest c.args.amount c.args.weights.now c.args.limit c.full_share-full.result c.place_of_rest-place.result false s within in
    sym (ap answered is)

pub returns-then-not-is_within-clause-shares : goal.returns-then-not-is_within-clause-shares
returns-then-not-is_within-clause-shares c =
    let f : FitsSigned w128 c.parts_in_all-all_parts.result = record { sfits = c.parts_in_all-all_parts.type_inv } in
    let g : FitsSigned w128 c.in-Some.sum = search rules in
    let h : FitsSigned w128 c.full_share-full.result = record { sfits = c.full_share-full.type_inv } in
    let s : Stands c.args.how c.args.rest c.args.amount c.args.weights.now c.args.limit c.place_of_rest-place.result c.full_share-full.result =
    stands_coded c.args.how c.args.rest c.args.amount c.args.weights.now c.args.limit c.parts_in_all-all_parts.result c.in-Some.sum c.full_share-full.result c.place_of_rest-place.result
    c.ranges.amount c.ranges.limit f g (sym c.are_weights.ensures ∙ c.if-not-are_weights.false) c.parts_in_all-all_parts.ensures c.if-all_parts-eq0.false c.in-Some.ensures.value
    c.place_of_rest-place.ensures.value c.place_of_rest-place.ensures.there c.full_share-full.ensures in
    let within : is_within c.args.limit c.full_share-full.result ≡ false = within_coded c.args.limit c.full_share-full.result c.is_within.result false c.ranges.limit h c.is_within.ensures c.if-not-is_within.true in
    let is : shares_of c.args.how c.args.rest c.args.amount c.args.weights.now c.args.limit ≡ cond (not false) (Err Overflow) (Ok (set (truncated_shares c.args.how c.args.amount c.args.weights.now) c.place_of_rest-place.result c.full_share-full.result)) =
    decided c.args.how c.args.rest c.args.amount c.args.weights.now c.args.limit c.full_share-full.result c.place_of_rest-place.result false s within in
    sym (ap (λ r. written r c.args.into.now) is)

pub write_shares-requires-clause-fit : goal.write_shares-requires-clause-fit
write_shares-requires-clause-fit c =
    summed_fit c.args.limit (shares_by c.args.how (to_z w64 (of_z w64 c.args.amount)) (to_z w128 (of_z w128 c.parts_in_all-all_parts.result)) c.args.weights.now) c.in-Some.sum c.ranges.limit c.in-Some.ensures.value

pub overflow_cast-into : goal.overflow_cast-into
overflow_cast-into c =
    let h : FitsSigned w128 c.full_share-full.result = record { sfits = c.full_share-full.type_inv } in
    let within : is_within c.args.limit c.full_share-full.result ≡ true = within_coded c.args.limit c.full_share-full.result c.is_within.result true c.ranges.limit h c.is_within.ensures c.if-not-is_within.false in
    let P : ℤ → Type 0 = λ z. FitsSigned w64 z in
    subst P (sym (to_z-of_z w128 c.full_share-full.result h)) (share_fits c.full_share-full.result (within_words c.args.limit c.full_share-full.result c.ranges.limit within))

pub returns-else-not-is_within-clause-answer : goal.returns-else-not-is_within-clause-answer
returns-else-not-is_within-clause-answer c =
    let f : FitsSigned w128 c.parts_in_all-all_parts.result = record { sfits = c.parts_in_all-all_parts.type_inv } in
    let g : FitsSigned w128 c.in-Some.sum = search rules in
    let h : FitsSigned w128 c.full_share-full.result = record { sfits = c.full_share-full.type_inv } in
    let s : Stands c.args.how c.args.rest c.args.amount c.args.weights.now c.args.limit c.place_of_rest-place.result c.full_share-full.result =
    stands_coded c.args.how c.args.rest c.args.amount c.args.weights.now c.args.limit c.parts_in_all-all_parts.result c.in-Some.sum c.full_share-full.result c.place_of_rest-place.result
    c.ranges.amount c.ranges.limit f g (sym c.are_weights.ensures ∙ c.if-not-are_weights.false) c.parts_in_all-all_parts.ensures c.if-all_parts-eq0.false c.in-Some.ensures.value
    c.place_of_rest-place.ensures.value c.place_of_rest-place.ensures.there c.full_share-full.ensures in
    let within : is_within c.args.limit c.full_share-full.result ≡ true = within_coded c.args.limit c.full_share-full.result c.is_within.result true c.ranges.limit h c.is_within.ensures c.if-not-is_within.false in
    let is : shares_of c.args.how c.args.rest c.args.amount c.args.weights.now c.args.limit ≡ cond (not true) (Err Overflow) (Ok (set (truncated_shares c.args.how c.args.amount c.args.weights.now) c.place_of_rest-place.result c.full_share-full.result)) =
    decided c.args.how c.args.rest c.args.amount c.args.weights.now c.args.limit c.full_share-full.result c.place_of_rest-place.result true s within in
    sym (ap answered is)

pub returns-else-not-is_within-clause-shares : goal.returns-else-not-is_within-clause-shares
returns-else-not-is_within-clause-shares c =
    let f : FitsSigned w128 c.parts_in_all-all_parts.result = record { sfits = c.parts_in_all-all_parts.type_inv } in
    let g : FitsSigned w128 c.in-Some.sum = search rules in
    let h : FitsSigned w128 c.full_share-full.result = record { sfits = c.full_share-full.type_inv } in
    let s : Stands c.args.how c.args.rest c.args.amount c.args.weights.now c.args.limit c.place_of_rest-place.result c.full_share-full.result =
    stands_coded c.args.how c.args.rest c.args.amount c.args.weights.now c.args.limit c.parts_in_all-all_parts.result c.in-Some.sum c.full_share-full.result c.place_of_rest-place.result
    c.ranges.amount c.ranges.limit f g (sym c.are_weights.ensures ∙ c.if-not-are_weights.false) c.parts_in_all-all_parts.ensures c.if-all_parts-eq0.false c.in-Some.ensures.value
    c.place_of_rest-place.ensures.value c.place_of_rest-place.ensures.there c.full_share-full.ensures in
    let within : is_within c.args.limit c.full_share-full.result ≡ true = within_coded c.args.limit c.full_share-full.result c.is_within.result true c.ranges.limit h c.is_within.ensures c.if-not-is_within.false in
    let is : shares_of c.args.how c.args.rest c.args.amount c.args.weights.now c.args.limit ≡ cond (not true) (Err Overflow) (Ok (set (truncated_shares c.args.how c.args.amount c.args.weights.now) c.place_of_rest-place.result c.full_share-full.result)) =
    decided c.args.how c.args.rest c.args.amount c.args.weights.now c.args.limit c.full_share-full.result c.place_of_rest-place.result true s within in
    raised_coded c.args.how c.args.amount c.args.weights.now c.write_shares.new.into c.args.limit c.parts_in_all-all_parts.result c.full_share-full.result c.place_of_rest-place.result
    c.ranges.amount f h (share_fits c.full_share-full.result (within_words c.args.limit c.full_share-full.result c.ranges.limit within)) c.parts_in_all-all_parts.ensures c.write_shares.ensures
    ∙ sym (ap (λ r. written r c.args.into.now) is)
