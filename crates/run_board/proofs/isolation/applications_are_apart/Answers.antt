use Rattle.run_board.proofs.Apart.{equal_lines, own_events_met, own_lines_written}
use Rattle.run_board.proofs.Texts.{equal_texts}
use Rattle.run_board.proofs.isolation.applications_are_apart.Goals as goal

pub returns-clause-own_events : goal.returns-clause-own_events
returns-clause-own_events g c = λ hosts seed stores script weather app host here none. own_events_met g.A.Application.behaviour hosts seed stores script weather app host here none

pub returns-clause-lines : goal.returns-clause-lines
returns-clause-lines g c = λ hosts seed stores script weather app host fit here. own_lines_written g.A.Application.behaviour hosts seed stores script weather app host fit here

pub returns-clause-equal : goal.returns-clause-equal
returns-clause-equal g c =
    λ hosts others seed stores stores_then script script_then weather weather_then app host fit fit_then here here_then store same none none_then alike kept_alike.
    equal_lines g.A.Application.behaviour hosts others seed stores stores_then script script_then weather weather_then app host fit fit_then here here_then store same none none_then alike kept_alike

pub returns-clause-texts : goal.returns-clause-texts
returns-clause-texts g c =
    λ hosts others seed stores stores_then script script_then text text_then app host fit fit_then here here_then store same calm calm_then.
    equal_texts g.A.Application.behaviour hosts others seed stores stores_then script script_then text text_then app host fit fit_then here here_then store same calm calm_then
