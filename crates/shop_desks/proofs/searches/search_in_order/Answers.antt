use Rattle.std.proofs.Common.{ap}
use Rattle.shop_desks.proofs.Joining.{search-begun, search-resumed, search-round}
use Rattle.shop_desks.proofs.searches.search_in_order.Goals as goal
use Rattle.shop_desks.specs.Nexts.{standing}
use Rattle.shop_desks.specs.Shops.{ShopView}

pub returns-in-Some-clause-search : goal.returns-in-Some-clause-search
returns-in-Some-clause-search g c =
    search-begun _ _ (ap (λ (s : ShopView). s.pool) c.shop.view_is) (standing c.args.board_pass.now c.args.pool_pass.now c.args.inbox_pass.now c.args.local.now c.args.stock.now.items) c.stock_up-berth.result c.stock_up-berth.new.pass c.stock_up-berth.new.stock.items c.stock_up-berth.ensures.berth
    c.begin-begun.new.pass c.begin-begun.new.inbox_pass c.in-Some.job c.in-Some.ensures.begun

pub returns-in-Some-resume-clause-search : goal.returns-in-Some-resume-clause-search
returns-in-Some-resume-clause-search g c =
    search-resumed _ _ (ap (λ (s : ShopView). s.pool) c.shop.view_is) (standing c.args.board_pass.now c.args.pool_pass.now c.args.inbox_pass.now c.args.local.now c.args.stock.now.items) c.stock_up-berth.result c.stock_up-berth.new.pass c.stock_up-berth.new.stock.items c.stock_up-berth.ensures.berth
    c.begin-begun.new.pass c.resume.new.pass c.begin-begun.new.inbox_pass c.resume.new.local c.in-Some-resume.job c.in_default.ensures.begun c.in-Some-resume.ensures.resumed c.in-Some-resume.ensures.queue

pub returns-clause-search : goal.returns-clause-search
returns-clause-search g c =
    search-round _ _ (ap (λ (s : ShopView). s.pool) c.shop.view_is) (standing c.args.board_pass.now c.args.pool_pass.now c.args.inbox_pass.now c.args.local.now c.args.stock.now.items) c.stock_up-berth.result c.stock_up-berth.new.pass c.stock_up-berth.new.stock.items c.stock_up-berth.ensures.berth
    c.begin-begun.new.pass c.resume.new.pass c.next_job.new.pass c.begin-begun.new.inbox_pass c.resume.new.local _ c.next_job.result c.in_default.ensures.begun c.in_default-resume.ensures.resumed c.in_default-resume.ensures.queue c.shop.invariant.0.1
    c.next_job.ensures
