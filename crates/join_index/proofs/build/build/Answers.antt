-- `join_index::build::build` meets its contract: each stage requires what the layout and the stages before it leave.
use native.Mathlib.Omega.{arith}
use Rattle.inputs.specs.Input.{lent_input}
use Rattle.join_spec.specs.Query.{lent_settings}
use Rattle.join_index.proofs.build.BuildPlan.{Planned, by_length, sizes, plan_sizes, wide}
use Rattle.join_index.proofs.build.BuildStages.{right_room, left_room, least_room, order_room, sign_room}
use Rattle.join_index.proofs.build.BuildGround.{ground, ground_items}
use Rattle.join_index.proofs.build.build.Goals as goal
use Rattle.join_index.proofs.build.build.Goals.{After-lay_out-lay}

planned : (c : After-lay_out-lay) → Planned (lent_input c.args.input.now) c.args.settings.now.ranks.now
    c.entries-left_entries.result c.entries-right_entries.result c.lay_out-lay.result c.args.work.now
planned c =
    record {
      room = by_length c.requires;
      left_entries = c.entries-left_entries.ensures;
      right_entries = c.entries-right_entries.ensures;
      out = c.lay_out-lay.ensures;
    }

pub lay_out-lay-requires : goal.lay_out-lay-requires
lay_out-lay-requires c =
    sizes (by_length c.requires) c.entries-left_entries.ensures c.entries-right_entries.ensures

pub overflow_add-left_base : goal.overflow_add-left_base
overflow_add-left_base c =
    omega (arith, plan_sizes (planned (goal.at.overflow_add-left_base c).After-lay_out-lay), c.lay_out-lay.ensures)

pub build_side-requires : goal.build_side-requires
build_side-requires c = right_room (planned (goal.at.build_side-requires c).After-lay_out-lay)

pub build_side-requires-2 : goal.build_side-requires-2
build_side-requires-2 c =
    left_room (planned (goal.at.build_side-requires-2 c).After-lay_out-lay) c.build_side.ensures

pub build_least-requires : goal.build_least-requires
build_least-requires c =
    least_room (planned (goal.at.build_least-requires c).After-lay_out-lay) c.build_side.ensures c.build_side-2.ensures

pub build_order-requires : goal.build_order-requires
build_order-requires c =
    order_room (planned (goal.at.build_order-requires c).After-lay_out-lay) c.build_side.ensures c.build_side-2.ensures
    c.build_least.ensures

pub sign_collections-requires : goal.sign_collections-requires
sign_collections-requires c =
    sign_room (planned (goal.at.sign_collections-requires c).After-lay_out-lay) c.build_side.ensures c.build_side-2.ensures c.build_least.ensures
    c.args.settings.now.limit
    c.build_order.ensures

pub returns : goal.returns
returns c =
    let settings = lent_settings c.args.settings.now in
    record {
      ground = ground_items settings c.requires
          (ground {settings = settings}
          record {
            plan = planned (goal.at.returns c).After-lay_out-lay;
            right_built = c.build_side.ensures;
            left_built = c.build_side-2.ensures;
            least_built = c.build_least.ensures;
            order_built = c.build_order.ensures;
            signed = c.sign_collections.ensures;
          });
      room = omega (
        arith,
        wide (planned (goal.at.returns c).After-lay_out-lay),
        c.build_side.auto.work,
        c.build_side-2.auto.work,
        c.build_least.auto.work,
        c.build_order.auto.work,
        c.sign_collections.auto.work,
      );
    }
