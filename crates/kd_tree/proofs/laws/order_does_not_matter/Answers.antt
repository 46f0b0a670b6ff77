use Rattle.std.proofs.Common.{sym}
use Rattle.kd_tree.proofs.Unordered.{rest-same, same-counts, split-same}
use Rattle.kd_tree.proofs.laws.order_does_not_matter.Goals as goal

pub returns : goal.returns
returns c = λ depth keys others h. (sym (split-same depth 0 keys others (same-counts keys others h)), sym (rest-same depth 0 keys others (same-counts keys others h)))
