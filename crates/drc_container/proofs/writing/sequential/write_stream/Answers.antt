use Rattle.std.proofs.Common.{◌≡◌, ◌++◌, ℕ, List, ap, ◌∙◌}
use Rattle.drc_container.specs.writing.Written.{stream_bytes}
use Rattle.drc_container.proofs.lemmas.writing.Attributed.{columns_of_geometry}
use Rattle.drc_container.proofs.lemmas.writing.Meanings.{means}
use Rattle.drc_container.proofs.lemmas.writing.Layouts.{layout-written}
use Rattle.drc_container.proofs.writing.sequential.write_stream.Goals.{In_ok-put_stream}
use Rattle.drc_container.proofs.writing.sequential.write_stream.Goals as goal

pub put_stream-requires-clause-values : goal.put_stream-requires-clause-values
put_stream-requires-clause-values c = c.as_slice.ensures.value ∙ c.requires.values

-- the bytes are those of the stream alone
bytes-are : (c : In_ok-put_stream) → c.put_stream.new.out.items ≡ stream_bytes c.args.g.now c.args.choice.now
bytes-are c = c.in_ok-put_stream.ensures.bytes ∙ ap (λ (l : List ℕ). l ++ stream_bytes c.args.g.now c.args.choice.now) c.new-out.ensures.items

pub returns-clause-means : goal.returns-clause-means
returns-clause-means c =
    rw (bytes-are (goal.at.returns-clause-means c).In_ok-put_stream)
    (means c.args.g.now c.args.choice.now c.requires.can.sequential c.point_count-count.ensures.geometry c.in_ok-put_stream.ensures.connectivity c.in_ok-put_stream.ensures.attributes
    (columns_of_geometry c.args.g.now c.args.choice.now c.requires.can c.point_count-count.ensures.sound).each_head)

pub returns-clause-layout : goal.returns-clause-layout
returns-clause-layout c =
    rw (bytes-are (goal.at.returns-clause-layout c).In_ok-put_stream)
    (layout-written c.args.g.now c.args.choice.now c.requires.can c.point_count-count.ensures.geometry c.in_ok-put_stream.ensures.connectivity c.in_ok-put_stream.ensures.attributes
    (columns_of_geometry c.args.g.now c.args.choice.now c.requires.can c.point_count-count.ensures.sound))
