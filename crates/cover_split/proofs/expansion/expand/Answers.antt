use Rattle.std.proofs.Common.{ℕ, ◌≡◌, List, length, subst, sym}
use Rattle.std.proofs.lemmas.Result.{err_from_is_err_and}
use Rattle.kiss_file.specs.declared.file.KissFile.{KissFile}
use Rattle.cover_split.specs.StateCover.{IsStateCover}
use Rattle.cover_split.specs.Expansion.{Caused, IsClosedCover}
use Rattle.cover_split.specs.Inner.Rows.{IsBuilt}
use Rattle.cover_split.proofs.Expanded.{answers_alike, answers_as_states, expansion, lawful, no_conflict, numbered, specified, table_of}
use Rattle.cover_split.proofs.expansion.expand.Goals as goal

-- the file is that of the cover's blocks
of_cover : (F E : KissFile) (blocks read : List (List ℕ)) → read ≡ blocks → IsBuilt F read E → IsBuilt F blocks E
of_cover F E blocks read same is = subst (λ (b : List (List ℕ)). IsBuilt F b E) same is

pub returns-clause-expansion : goal.returns-clause-expansion
returns-clause-expansion c =
    let F = c.args.m.now in let blocks = c.args.cover.now.blocks in let E = c.in_ok-file.file in
    expansion F c.keeps_its_states.ensures.table c.keeps_its_states.ensures.next blocks c.requires E (of_cover F E blocks c.as_slice.result.now c.as_slice.ensures c.in_ok-file.ensures.built)

pub returns-clause-closed : goal.returns-clause-closed
returns-clause-closed c = subst (IsClosedCover c.args.m.now) c.as_slice.ensures c.in_ok-file.ensures.closed

pub returns-clause-table : goal.returns-clause-table
returns-clause-table c =
    let F = c.args.m.now in let blocks = c.args.cover.now.blocks in let E = c.in_ok-file.file in
    table_of F c.keeps_its_states.ensures.table c.keeps_its_states.ensures.next blocks c.requires E (of_cover F E blocks c.as_slice.result.now c.as_slice.ensures c.in_ok-file.ensures.built)

pub returns-clause-no_conflict : goal.returns-clause-no_conflict
returns-clause-no_conflict c =
    let F = c.args.m.now in let blocks = c.args.cover.now.blocks in let E = c.in_ok-file.file in
    no_conflict F c.keeps_its_states.ensures.table c.keeps_its_states.ensures.next blocks c.requires E (of_cover F E blocks c.as_slice.result.now c.as_slice.ensures c.in_ok-file.ensures.built)

pub returns-clause-specified : goal.returns-clause-specified
returns-clause-specified c =
    let F = c.args.m.now in let blocks = c.args.cover.now.blocks in let E = c.in_ok-file.file in
    specified F c.keeps_its_states.ensures.table c.keeps_its_states.ensures.next blocks c.requires E (of_cover F E blocks c.as_slice.result.now c.as_slice.ensures c.in_ok-file.ensures.built)

pub returns-clause-numbered : goal.returns-clause-numbered
returns-clause-numbered c =
    let F = c.args.m.now in let blocks = c.args.cover.now.blocks in let E = c.in_ok-file.file in
    numbered F c.keeps_its_states.ensures.table c.keeps_its_states.ensures.next blocks c.requires E (of_cover F E blocks c.as_slice.result.now c.as_slice.ensures c.in_ok-file.ensures.built)

pub returns-clause-lawful : goal.returns-clause-lawful
returns-clause-lawful c =
    let F = c.args.m.now in let blocks = c.args.cover.now.blocks in let E = c.in_ok-file.file in
    lawful F c.keeps_its_states.ensures.table c.keeps_its_states.ensures.next blocks c.requires E (of_cover F E blocks c.as_slice.result.now c.as_slice.ensures c.in_ok-file.ensures.built)

pub returns-clause-answers : goal.returns-clause-answers
returns-clause-answers c =
    let F = c.args.m.now in let blocks = c.args.cover.now.blocks in let E = c.in_ok-file.file in
    answers_as_states F c.keeps_its_states.ensures.table c.keeps_its_states.ensures.next blocks c.requires E (of_cover F E blocks c.as_slice.result.now c.as_slice.ensures c.in_ok-file.ensures.built)

pub returns-clause-answers_alike : goal.returns-clause-answers_alike
returns-clause-answers_alike c =
    let F = c.args.m.now in let blocks = c.args.cover.now.blocks in let E = c.in_ok-file.file in
    answers_alike F c.keeps_its_states.ensures.table c.keeps_its_states.ensures.next blocks c.requires E (of_cover F E blocks c.as_slice.result.now c.as_slice.ensures c.in_ok-file.ensures.built)

pub returns-in_err-file-clause-caused : goal.returns-in_err-file-clause-caused
returns-in_err-file-clause-caused c =
    let p = err_from_is_err_and c.from_residual.result c.from_residual.ensures.1 in
    rw (p.1, p.2) (subst (λ (b : List (List ℕ)). Caused c.args.m.now b c.in_err-file.field-0.0) c.as_slice.ensures c.in_err-file.ensures.caused)

pub file_of_pairs-requires : goal.file_of_pairs-requires
file_of_pairs-requires c = subst (IsStateCover (length c.args.m.now.states)) (sym c.as_slice.ensures) c.requires
