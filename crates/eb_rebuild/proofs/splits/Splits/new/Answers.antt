-- All events are left, and the sides that they keep have room.
use Rattle.std.proofs.Common.{◌≡◌, ◌<◌, ℕ, List, length, map, get_or, All, ◌∙◌, sym, ap, subst, arith}
use Rattle.std.proofs.lemmas.List.{length-replicate, length-map, get_or-map}
use Rattle.std.proofs.lemmas.List.Elements.{All-map}
use Rattle.std.specs.List.{Contains}
use Rattle.corner_table.specs.declared.symbols.Event.{Event}
use Rattle.corner_table.specs.Table.{free_entry}
use Rattle.eb_machine.specs.Events.{IsEventOf}
use Rattle.eb_rebuild.specs.Kept.{counted_down, no_event, split_number, HasRoomFor}
use Rattle.eb_rebuild.proofs.Lists.{counted_down_reverse}
use Rattle.eb_rebuild.proofs.Noting.{split_below}
use Rattle.eb_rebuild.proofs.splits.Splits.new.Goals as goal

numbers_below : (n : ℕ) (events : List Event) → All (IsEventOf n) events → All (λ k. k < n) (map (split_number n) events)
numbers_below n events h = All-map (λ k. k < n) (split_number n) events (λ i d l. split_below n (get_or events i d) (h i d l))

events_have_room : (n : ℕ) (events : List Event) (kept numbers split : List ℕ) → length kept ≡ n → split ≡ map (split_number n) events → ((k : ℕ) → Contains split k → Contains numbers k) → All (HasRoomFor numbers (length kept)) events
events_have_room n events kept numbers split e q h =
    subst (λ (m : ℕ). All (HasRoomFor numbers m) events) (sym e)
    (λ i d l. h (split_number n (get_or events i d)) (
      i,
      subst (λ (x : List ℕ). i < length x) (sym q) (let m = length-map events (split_number n) in omega arith),
      ap (λ (x : List ℕ). get_or x i (split_number n (get_or events i d))) q ∙ get_or-map (split_number n) events i d (split_number n (get_or events i d)) l,
    ))

pub new-requires : goal.new-requires
new-requires c = subst (λ (l : List ℕ). All (λ k. k < c.args.symbols) l) (sym c.in_ok-numbers.ensures) (numbers_below c.args.symbols c.args.events.items c.requires.events)

pub invariant_of-result : goal.invariant_of-result
invariant_of-result c =
    let long : length c.in_ok-kept.kept.sides ≡ c.args.symbols = ap (λ (l : List ℕ). length l) c.in_ok-kept.ensures.sides ∙ length-replicate c.args.symbols free_entry in
    let left = c.len-left.ensures in
    let small = c.requires.symbols in (
      omega arith,
      omega arith,
      subst (λ (n : ℕ). All (IsEventOf n) c.args.events.items) (sym long) c.requires.events,
      events_have_room c.args.symbols c.args.events.items c.in_ok-kept.kept.sides c.in_ok-kept.kept.numbers c.in_ok-numbers.numbers.items long c.in_ok-numbers.ensures c.in_ok-kept.ensures.numbers,
    )

pub returns-clause-events : goal.returns-clause-events
returns-clause-events c = ap (λ (n : ℕ). counted_down no_event n c.args.events.items) (c.len-left.ensures ∙ c.args.events.ok.0) ∙ counted_down_reverse no_event c.args.events.items
