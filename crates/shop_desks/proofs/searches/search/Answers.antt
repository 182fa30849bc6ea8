use Rattle.shop_desks.proofs.Joining.{search-full, search-few}
use Rattle.shop_desks.proofs.searches.search.Goals as goal
use Rattle.shop_desks.proofs.searches.search.Goals.{then-is_full+in_default, else-is_full}
use Rattle.shop_desks.specs.Nexts.{standing}

pub returns-clause-search : goal.returns-clause-search
returns-clause-search g c =
    let old = standing c.args.board_pass.now c.args.pool_pass.now c.args.inbox_pass.now c.args.local.now c.args.stock.now.items in
    let new = standing c.search_in_order.new.board_pass c.search_in_order.new.pool_pass c.search_in_order.new.inbox_pass c.search_in_order.new.local c.search_in_order.new.stock.items in
    elim c.if-is_full.branch [
      | then-is_full+in_default w ↦
          search-full c.args.shop.now.pool old new w.resume.new.pass c.if-is_full.board_pass w.resume.new.local c.if-is_full.local c.search_in_order.result (c.is_full.ensures.0 w.if-is_full.true) w.in_default.ensures.resumed w.in_default.ensures.queue w.board_pass-is
          w.local-is c.search_in_order.ensures.search
      | else-is_full w ↦
          search-few c.args.shop.now.pool old new c.if-is_full.board_pass c.if-is_full.local c.search_in_order.result c.is_full.result c.is_full.ensures w.if-is_full.false w.board_pass-is w.local-is c.search_in_order.ensures.search
    ]
