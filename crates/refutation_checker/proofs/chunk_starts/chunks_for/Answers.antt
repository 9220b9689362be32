use Rattle.std.proofs.Common.{◌≡◌, ◌≤◌, ◌+◌, ◌/◌, ◌%◌, min, length, ap, ◌∙◌, ◌<◌, subst, sym}
use Rattle.std.proofs.lemmas.Result.{IfOk-weaker}
use Rattle.refutation_log.proofs.LogLines.{some_bytes}
use Rattle.refutation_checker.specs.Starts.{Start}
use Rattle.refutation_checker.specs.Chunks.{IsFew, line_count}
use Rattle.refutation_checker.proofs.Feeds.{one_for_each}
use Rattle.refutation_checker.proofs.chunk_starts.chunks_for.Goals as goal

pub returns-clause-few : goal.returns-clause-few
returns-clause-few c =
    let lines : c.count_lines.result ≡ line_count c.args.all.bytes = c.count_lines.ensures.value ∙ ap (λ (s : Start). line_count s.bytes) c.all.view_is in
    let size : c.div_ceil-size.result ≡ line_count c.args.all.bytes / c.args.workers + min 1 (line_count c.args.all.bytes % c.args.workers) =
    c.div_ceil-size.ensures ∙ ap (λ n. n / c.args.workers + min 1 (n % c.args.workers)) lines in
    IfOk-weaker c.chunks_of.result (λ v. IsFew (length v.items) c.div_ceil-size.result c.args.all.bytes) (λ v. length v.items ≤ c.args.workers)
    (λ v few. one_for_each (length v.items) c.div_ceil-size.result c.args.workers c.args.all.bytes few size c.requires.workers) c.chunks_of.ensures.few

pub count_lines-requires : goal.count_lines-requires
count_lines-requires c = subst (λ (s : Start). 0 < length s.bytes) (sym c.all.view_is) (some_bytes c.args.all.bytes c.requires.some)
