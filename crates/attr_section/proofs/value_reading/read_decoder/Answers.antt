use Rattle.std.proofs.Common.{length, ap, ◌∙◌, sym}
use Rattle.attr_section.specs.Attributes.{comps_of}
use Rattle.attr_section.proofs.Columned.{AreColumns-comps, AreColumns-length}
use Rattle.attr_section.proofs.value_reading.read_decoder.Goals as goal

pub returns-clause-columns : goal.returns-clause-columns
returns-clause-columns c =
    AreColumns-comps c.args.entries c.as_slice.result.now c.from_vec.result c.in_ok-attributes.attributes.items c.in_ok-attributes.ensures.columns
    (ap comps_of c.from_vec.ensures ∙ c.in_ok-heads.ensures.comps ∙ ap comps_of (c.as_slice-2.ensures.items ∙ sym c.as_slice.ensures.items))

pub read_quants-requires : goal.read_quants-requires
read_quants-requires c = record {
  same = ap length c.deref.ensures.value
      ∙ AreColumns-length c.args.entries c.as_slice.result.now c.in_ok-attributes.attributes.items c.in_ok-attributes.ensures.columns
      ∙ ap length (c.as_slice.ensures.items ∙ sym c.as_slice-2.ensures.items);
}
